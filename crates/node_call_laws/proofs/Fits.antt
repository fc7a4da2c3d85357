-- What is read is made of bytes of the payload, and calls move fields that have images: each part keeps that.
use Prim.Native.Nat.{ℕ, ◌+◌, ◌<◌, ◌≤◌}
use mathlib.Core.Path.{◌≡◌, refl, sym, subst}
use mathlib.Core.Bool.{Bool, true, false, cond, ◌&&◌}
use mathlib.Core.List.{List}
use native.Mathlib.Omega.{arith}
use borrow.Author.Tests.{leb-true}
use lib.Dec.{leb, eqb}
use lib.ListN.{length}
use lib.Seq.{take-length}
use Rattle.image.specs.Part.{AllBytes, octets}
use Rattle.link_key.specs.set.KeyLaws.{KeyLaws}
use Rattle.cojp.specs.Octets.{padded, copied_from}
use Rattle.protocol_version.specs.declared.Version.{Version}
use Rattle.protocol_version.specs.declared.Version.TheVariants.{Draft, Published}
use Rattle.node.specs.Node.{valid_role, fresh_node, made}
use Rattle.node.specs.declared.node.MakeResult.{MakeResult}
use Rattle.node_calls.specs.Calls.{network_of, made_of}
use Rattle.node_attempt.specs.declared.attempt.Phase.TheVariants as phase
use Rattle.node_image.specs.Held.{held_octets_part}
use Rattle.node_image.specs.Node.{node_image}
use Rattle.node_image.specs.Version.{version_of, version_part}
use Rattle.node_parameters.specs.Octets.{absent_octets, known_octets, valid_octets}
use Rattle.node_parameters.specs.declared.octets.HeldOctets.{HeldOctets}
use Rattle.node_call_laws.specs.Fits.{CallsFit}
use Rattle.node_call_laws.proofs.Configurations.{configuration-fits}
use Rattle.node_call_laws.proofs.Kept.{performed-fits}
use Rattle.node_call_laws.proofs.Lists.{by_cond, under-zeros}
use Rattle.node_call_laws.proofs.Parameters.{padded-fits}
use Rattle.node_call_laws.proofs.Requests.{request-fits}
use Rattle.node_call_laws.proofs.Values.{bool-fits, none-counted-fits, attempt-fits, no-faults-fit}

-- ---- a node that is made
version-fits : (v : Version) → version_part.Fit v
version-fits Draft = (omega arith, refl)
version-fits Published = (omega arith, refl)

absent-fits : held_octets_part.Fit absent_octets
absent-fits = (bool-fits false, (omega arith, (refl, under-zeros 256 16 (omega arith))))

fresh-fits : (v : Version) (role : ℕ) (h : HeldOctets) → role < 256 → held_octets_part.Fit h → node_image.Fit (fresh_node v role h)
fresh-fits v role h r f = (
  r,
  (
    attempt-fits phase.Idle (omega arith) (omega arith) (omega arith) (omega arith),
    (
      (none-counted-fits, none-counted-fits),
      (
        (bool-fits false, (((refl, under-zeros 256 2 (omega arith)), (bool-fits false, omega arith)), omega arith)),
        (
          absent-fits,
          (
            f,
            (
              absent-fits,
              (
                version-fits v,
                (
                  (bool-fits false, (omega arith, (omega arith, (refl, under-zeros 256 253 (omega arith))))),
                  ((bool-fits false, omega arith), no-faults-fit),
                ),
              ),
            ),
          ),
        ),
      ),
    ),
  ),
)

copied-fits : (x : List ℕ) → AllBytes x → length x ≤ 16 → (octets 16).Fit (copied_from x 0 (length x))
copied-fits x b h =
    by_cond (octets 16).Fit (leb (length x) 16 && leb (0 + length x) (length x))
    (λ _. subst (λ (y : List ℕ). (octets 16).Fit (padded 16 y)) (sym (take-length x)) (padded-fits 16 x b h))
    (λ _. (refl, under-zeros 256 16 (omega arith)))

network-fits : (b : Bool) (x : List ℕ) (h : HeldOctets)
    → h ≡ cond b absent_octets (record { held = true; value = record { len = length x; bytes = copied_from x 0 (length x) } })
    → AllBytes x → valid_octets h ≡ true → held_octets_part.Fit (known_octets h)
network-fits true x h e b v = rw e absent-fits
network-fits false x h e b v =
    let short = leb-true (length x) 16 (rw e at v) in
    rw e (bool-fits true, (omega arith, copied-fits x b short))

made-fits : (form role has : ℕ) (x : List ℕ) → AllBytes x → node_image.Fit (made_of form role has x).node
unfolding made
made-fits form role has x b =
    let P : MakeResult → Type 0 = λ m. node_image.Fit m.node in
    let h = network_of has x in
    let empty = fresh-fits Draft 0 absent_octets (omega arith) absent-fits in
    by_cond P (valid_role role)
    (λ r. by_cond P (valid_octets h)
    (λ v. let low = leb-true role 1 r in
    fresh-fits (version_of form) role (known_octets h) (omega arith) (network-fits (eqb has 0) x h refl b v))
    (λ _. empty))
    (λ _. empty)

pub calls-fit : KeyLaws → CallsFit
calls-fit laws =
    record {
      reads_fit = λ p b. record {
        configuration = λ v strict. configuration-fits laws v strict p b;
        request = λ v strict. request-fits v strict p b;
      };
      made-fits = made-fits;
      keeps-fit = λ c n h f. (performed-fits laws c n h f).0;
      answer-fits = λ c n h f. (performed-fits laws c n h f).1;
    }
