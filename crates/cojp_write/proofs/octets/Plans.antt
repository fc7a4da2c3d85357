-- The plan of a byte string: RANGE, or the bytes of its pair; and one plan for another that is equal to it.
use Rattle.std.specs.Prelude.{Result, Ok, Err}
use Rattle.std.specs.Result.{result_unwrap_or}
use Rattle.refusal.specs.declared.Refusal.{Refusal}
use mathlib.Core.Path.{◌≡◌, refl}
use mathlib.Core.Bool.{true, false}
use mathlib.Core.List.{List}
use Prim.Native.Nat.{ℕ, ◌≤◌}
use lib.ListN.{length}
use Rattle.refusal.specs.declared.Refusal.TheVariants.{Range}
use Rattle.byte_io.specs.Write.{Plan, Did, Wrote, emit}
use Rattle.cbor.specs.Encode.{encode_pairs}
use Rattle.byte_io.specs.WriteLemmas.{did-refuse, did-done, did_never}
use Rattle.cojp.specs.Writing.{octets_pairs}
use Rattle.cojp.specs.declared.octets.OctetsParameter.{OctetsParameter}
use Rattle.cojp_write.specs.octets.Plan.{string_in_range, octets_plan}

module _ (label : ℕ) (p : OctetsParameter) where
  pub string-range : (d : List ℕ) → string_in_range label p ≡ false → Did (octets_plan label p) d (Err Range) d
  unfolding octets_plan
  string-range d h = rw h (did-refuse Range d)

  module _ (h : string_in_range label p ≡ true) {d d' : List ℕ} {r : Result ℕ Refusal} where
    pub string-emit : Did (emit (encode_pairs (octets_pairs label p))) d r d' → Did (octets_plan label p) d r d'
    unfolding octets_plan
    string-emit w = rw h w

    -- what a caller that has judged the parameter learns
    pub string-did : Did (octets_plan label p) d r d' → Did (emit (encode_pairs (octets_pairs label p))) d r d'
    unfolding octets_plan
    string-did w = rw h at w

-- the same plan, otherwise put
pub planned-as : {p q : Plan} {d d' : List ℕ} {r : Result ℕ Refusal} → p ≡ q → Did q d r d' → Did p d r d'
planned-as e w = rw e w

-- what has room is written, and the length is known
pub did-wrote : (p d : List ℕ) (r : Result ℕ Refusal) (d' : List ℕ) → length p ≤ length d → Did (emit p) d r d'
    → Wrote p d (result_unwrap_or r 0) d'
did-wrote p d (Ok n) d' h w = did-done p d (Ok n) d' n h w refl
did-wrote p d (Err k) d' h w = absurd (did_never p d (Err k) d' k h w refl)
