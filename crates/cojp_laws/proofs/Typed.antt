-- What the types of an object that is passed by value say of its numbers and arrays.
use Prim.Native.Nat.{ℕ, ◌^◌, ◌<◌}
use mathlib.Core.Path.{◌≡◌}
use mathlib.Core.List.Memᴰ
use mathlib.Core.List.{List, [], ◌∷◌}
use native.Mathlib.Omega.{arith}
use lib.ListN.{length}
use mir.Syntax.{w8}
use mir.Val.{Val}
use denote.Array.{each}
use denote.Laws.{Is}
use denote.Plain.{UInt}
use denote.Shadow.{shadow}
use denote.Struct.Declared.{row}
use Rattle.cbor.specs.Laws.{Bytes}
use Rattle.cojp.specs.contracts.configuration.Configuration as configuration
use Rattle.cojp.specs.contracts.list.ListParameter as parameter
use Rattle.cojp.specs.contracts.request.JoinRequest as request
use Rattle.cojp.specs.declared.configuration.Configuration.{Configuration}
use Rattle.cojp.specs.declared.list.ListParameter.{ListParameter}
use Rattle.cojp.specs.declared.request.JoinRequest.{JoinRequest}

each-byte : (s : List ℕ) (us : List Val) → shadow (each ℕ (UInt w8).own_val s us) → Bytes s
each-byte (x ∷ s) (u ∷ us) h y (Memᴰ.head e) = omega (arith, e, h.0.1)
each-byte (x ∷ s) (u ∷ us) h y (Memᴰ.tail m) = each-byte s us h.1 y m
each-byte [] us h y m = elim m [ ]
each-byte (x ∷ s) [] h y m = elim h [ ]

-- a list's bytes are bytes
list-bytes : (p : ListParameter) (vs : List Val) → Is (row parameter.the_type) p vs → Bytes p.value.bytes
list-bytes p vs h =
    let value = h.1.1.0 in
    let array = value.1.1.1.1.0 in
    each-byte p.value.bytes array.0 array.1.1

pub reports-bytes : (q : JoinRequest) (vs : List Val) → Is (row request.the_type) q vs → Bytes q.unsupported.value.bytes
reports-bytes q vs h = list-bytes q.unsupported _ h.1.1.1.1.0

pub record TypedConfiguration (c : Configuration) : Type 0 where
  pub two : length c.address.value.bytes ≡ 2
  pub lease : c.address.value.lease < 2 ^ 64
  pub sixteen : length c.jrc.value.bytes ≡ 16
  pub list : Bytes c.blacklist.value.bytes
  pub rate : c.rate.value < 2 ^ 64

pub configuration-typed : (c : Configuration) (vs : List Val) → Is (row configuration.the_type) c vs → TypedConfiguration c
configuration-typed c vs h =
    let later = h.1.1.1 in
    let address = later.0.1.1.1.0.1.1 in
    let jrc = later.1.0.1.1.1.0.1.1 in
    let published = later.1.1.1.1 in
    record {
      two = address.0.1.0.1;
      lease = address.1.1.0.1;
      sixteen = jrc.1.0.1.0.1;
      list = list-bytes c.blacklist _ published.0;
      rate = published.1.0.1.1.1.0.1;
    }
