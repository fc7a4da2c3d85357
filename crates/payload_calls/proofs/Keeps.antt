-- A call whose number is not 0 was refused, and what a refusal leaves is said by the verdict or the plan alone.
use Rattle.std.specs.Prelude.{Ok, Err}
use Prim.Native.Nat.{ℕ}
use mathlib.Core.Path.{◌≡◌}
use mathlib.Core.Bool.{Bool, true, false, ◌&&◌, cond}
use mathlib.Core.List.{List, ◌++◌}
use lib.Dec.{leb}
use lib.ListN.{length, drop}
use Rattle.refusal.specs.declared.Refusal.TheVariants.{Room}
use Rattle.byte_io.specs.Write.{Plan, refuse, emit, written_says}
use Rattle.image.proofs.Lent.{hands-emptied}
use Rattle.image.specs.Part.{is_image}
use Rattle.object_image.specs.Configuration.{configuration_image}
use Rattle.object_image.specs.Request.{request_image}
use Rattle.payload_calls.specs.Asked.{is_reading}
use Rattle.payload_calls.specs.Laws.{PayloadRefusals}
use Rattle.payload_calls.specs.Merge.{merged_in}
use Rattle.payload_calls.specs.Read.{request_asked, configuration_asked}
use Rattle.payload_calls.specs.Write.{Writes}

-- as many bytes as there is room for, or not
kept_by : (t : Bool) (p d : List ℕ) {r n : ℕ} {d' : List ℕ} → (r ≡ 0 → ⊥)
    → r ≡ (written_says (cond t (Ok (length p)) (Err Room))).0
    → d' ≡ cond t (p ++ drop (length p) d) d
    → n ≡ (written_says (cond t (Ok (length p)) (Err Room))).1
    → (d' ≡ d) × (n ≡ 0)
kept_by true p d h e f g = absurd (h e)
kept_by false p d h e f g = (f, g)

write_kept : (plan : Plan) (d : List ℕ) {r n : ℕ} {d' : List ℕ} → Writes plan d r d' n → (r ≡ 0 → ⊥) → (d' ≡ d) × (n ≡ 0)
write_kept (refuse k) d w h = (w.dst, w.long)
write_kept (emit p) d w h = kept_by (leb (length p) (length d)) p d h w.number w.dst w.long

pub refusals-keep : PayloadRefusals
refusals-keep =
    record {
      read-request = λ form reading p s r s' d h.
          let asked = request_asked form reading p in
          hands-emptied 296 (is_reading form reading) asked.verdict (request_image.put asked.request) s r s' d h;
      read-configuration = λ form reading p s r s' d h.
          let asked = configuration_asked form reading p in
          hands-emptied 570 (is_reading form reading) asked.verdict (configuration_image.put asked.configuration) s r s' d h;
      write = λ plan d r d' n w h. write_kept plan d w h;
      merge = λ a b s r s' d h.
          hands-emptied 570 (is_image configuration_image a && is_image configuration_image b) (merged_in a b).verdict
          (configuration_image.put (merged_in a b).configuration)
          s r s' d h;
    }
