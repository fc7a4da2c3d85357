-- A taken address is in range, and neither of the two is:
-- so a reading that took one was refused or is in range, and the writer answers RANGE.
use Rattle.std.specs.Prelude.{Ok, Err}
use Prim.Native.Nat.{ℕ}
use native.Mathlib.Omega.{arith}
use mathlib.Core.Path.{◌≡◌, refl, sym, subst, ◌∙◌}
use mathlib.Core.Bool.{Bool, true, false, cond, ◌&&◌}
use mathlib.Core.List.{List}
use Rattle.refusal.specs.declared.Refusal.{Refusal}
use Rattle.refusal.specs.declared.Refusal.TheVariants.{Range, Loose}
use Rattle.refusal.specs.Verdict.{Verdict}
use Rattle.short_address.specs.Address.{is_address, AddressLaws}
use Rattle.byte_io.specs.Write.{refuse, emit}
use Rattle.cbor.specs.Decode.{heading}
use Rattle.cbor.specs.Strict.{head_by}
use Rattle.cojp.specs.Configuration.{empty_configuration, refuse_configuration, read_configuration_by, read_configuration_as}
use Rattle.cojp.specs.InRange.{InRange, ReadsInRange}
use Rattle.cojp.specs.Laws.{ReadersDemand1, StrictReaders, meets_longer}
use Rattle.cojp.specs.Reading.{if_taken}
use Rattle.cojp.specs.Writing.{keys_in_range, address_in_range, jrc_in_range, octets_in_range, of_version, configuration_in_range}
use Rattle.cojp.specs.Writing.{configuration_plan}
use Rattle.cojp.specs.declared.configuration.Configuration.{Configuration}
use Rattle.cojp.specs.declared.configuration.ConfigurationRead.{ConfigurationRead}
use Rattle.cojp.specs.declared.disposition.Disposition.{Disposition}
use Rattle.protocol_version.specs.declared.Version.{Version}
use Rattle.cojp_laws.specs.Addresses.{HoldsReserved, ObjectAddresses}

empty-none : HoldsReserved empty_configuration → ⊥
empty-none h = let z : ◌≡◌ {A = ℕ} 0 1 = (let e = h.taken in cc) in omega arith

second-false : (a b c d e f : Bool) → b ≡ false → (a && b && c && d && e && f) ≡ false
second-false true b c d e f h = rw h
second-false false b c d e f h = refl

module _ (A : AddressLaws) where
  out_of_range : (c : Configuration) → HoldsReserved c → address_in_range c.address ≡ false
  out_of_range c h =
      let no = A.reserved c.address.value.bytes h.reserved in
      subst (λ (r : Disposition). if_taken r (is_address c.address.value.bytes) true ≡ false) (sym h.taken) no

  range : (v : Version) (c : Configuration) → HoldsReserved c → configuration_plan v c ≡ refuse Range
  unfolding configuration_plan configuration_in_range
  range v c h =
      let out = second-false (keys_in_range c.keys) (address_in_range c.address) (jrc_in_range c.jrc) (octets_in_range c.network)
      (octets_in_range c.prefix) (of_version v c) (out_of_range c h) in
      rw out

  none_written : (v : Version) (c : Configuration) (p : List ℕ) → configuration_plan v c ≡ emit p → HoldsReserved c → ⊥
  none_written v c p e h = let f = sym (range v c h) ∙ e in let z : ◌≡◌ {A = ℕ} 0 1 = cc in omega arith

  -- an answer that is in range where it accepts, and the empty configuration where it refuses
  answer-none : (v : Version) (r : ConfigurationRead) → (r.verdict ≡ Ok tt → InRange v r.configuration)
      → ((k : Refusal) → r.verdict ≡ Err k → r.configuration ≡ empty_configuration) → HoldsReserved r.configuration → ⊥
  answer-none v r within empty h = go r.verdict refl
    where
      go : (k : Verdict) → r.verdict ≡ k → ⊥
      go (Ok tt) e =
          let f = sym (within e).address ∙ out_of_range r.configuration h in let z : ◌≡◌ {A = ℕ} 0 1 = cc in omega arith
      go (Err k) e = empty-none (subst HoldsReserved (empty k e) h)

  module _ (R : ReadsInRange) (D : ReadersDemand1) (S : StrictReaders) where
    ordinary-none : (v : Version) (p : List ℕ) → HoldsReserved (read_configuration_as v p).configuration → ⊥
    ordinary-none v p = answer-none v (read_configuration_as v p) (R v p) (D.configuration v heading p)

    loose_none : (v : Version) (p : List ℕ) (b : Bool)
        → HoldsReserved (cond b (refuse_configuration Loose) (read_configuration_as v p)).configuration → ⊥
    loose_none v p true h = empty-none h
    loose_none v p false h = ordinary-none v p h

    none_read : (v : Version) (b : Bool) (p : List ℕ) → HoldsReserved (read_configuration_by v (head_by b) p).configuration → ⊥
    none_read v false p h = ordinary-none v p h
    none_read v true p h =
        loose_none v p (meets_longer p) (subst (λ (r : ConfigurationRead). HoldsReserved r.configuration) (S.configuration v p) h)

    pub object-addresses : ObjectAddresses
    object-addresses = record { none_read = none_read; none_written = none_written; range = range }
