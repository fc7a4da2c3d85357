-- After a reset and some parts the store holds the bytes of all of them, as long as they are at most 256; else the overrun is marked. The
-- end then reads those bytes, or is LONG as the whole reading is.
use Prim.Native.Nat.{ℕ, ◌+◌, ◌≤◌, ◌<◌}
use mathlib.Core.Path.{◌≡◌, refl, ap, sym, ◌∙◌}
use mathlib.Core.Bool.{Bool, true, false}
use mathlib.Core.List.{List, [], ◌∷◌, ◌++◌, append_assoc, append-nil}
use native.Mathlib.Omega.{arith}
use borrow.Author.Tests.{ltb-true, ltb-false, lt-ltb}
use lib.Dec.{ltb}
use lib.ListN.{length, take, length-append}
use Rattle.refusal.specs.declared.Refusal.TheVariants.{Long}
use Rattle.cbor.specs.Decode.{Outcome, Heading}
use Rattle.cbor.specs.Strict.{head_by}
use Rattle.cojp.specs.Configuration.{refuse_configuration, read_configuration_by}
use Rattle.cojp.specs.Request.{refuse_request, read_request_by}
use Rattle.cojp.specs.Walk.{payload_read_by}
use Rattle.protocol_version.specs.declared.Version.{Version}
use Rattle.cojp_serial.specs.State.{part_answer, part_store}
use Rattle.cojp_serial.specs.Calls.{Reader, request, configuration, sending, ending, resetting}
use Rattle.cojp_serial.specs.Calls.{Held, decision_on, whole_read, told, left, sent, joined}
use Rattle.cojp_serial.specs.Laws.{EndReadsTheWhole}
use Rattle.cojp_serial.specs.declared.state.PartDecision.{PartDecision}
use Rattle.cojp_serial.specs.declared.state.PartDecision.TheVariants.{Overrun, Open}
use Rattle.cojp_serial.proofs.Courses.{overrun-before, overrun-now, open-to}
use Rattle.cojp_serial.proofs.Stores.{placed-length, placed-take}

-- the bytes b were sent
pub data Holds (h : Held) (b : List ℕ) : Type 0 where
  all :
      h.state ≡ record { arrived = length b; overrun = false; ended = false } → take (length b) h.store ≡ b →
      256 ≤ length h.store → length b ≤ 256 → Holds h b
  over : h.state.overrun ≡ true → h.state.arrived ≤ 256 → 256 ≤ length h.store → 256 < length b → Holds h b

longer : (b p : List ℕ) → 256 < length b → 256 < length (b ++ p)
longer b p h = simp length-append (omega arith)

-- one part more, by its course
overruns : (h : Held) (b p : List ℕ) (x : PartDecision) → x ≡ Overrun → h.state.arrived ≤ 256 → 256 ≤ length h.store
    → 256 < length (b ++ p)
    → Holds (record { state = (part_answer x h.state (length p)).state; store = part_store x h.state.arrived p h.store }) (b ++ p)
overruns h b p x e m s l = rw e (over refl m s l)

fits : (h : Held) (b p : List ℕ) (x : PartDecision) → x ≡ Open → h.state ≡ record { arrived = length b; overrun = false; ended = false }
    → take (length b) h.store ≡ b → 256 ≤ length h.store → length b + length p ≤ 256
    → Holds (record { state = (part_answer x h.state (length p)).state; store = part_store x h.state.arrived p h.store }) (b ++ p)
fits h b p x e a t s l =
    rw (e, a)
    (all
    (rw (length-append b p))
    (rw (length-append b p) (placed-take (length b) p h.store (omega arith) ∙ ap (λ (y : List ℕ). y ++ p) t))
    (rw (placed-length (length b) p h.store (omega arith)) s)
    (rw (length-append b p) l))

one_more : (h : Held) (b p : List ℕ) → Holds h b → Holds (left (sending p) h) (b ++ p)
one_more h b p (over o m s l) =
    overruns h b p (decision_on h (length p)) (sym (overrun-before h.state (length h.store) (length p) s m o)) m s (longer b p l)
one_more h b p (all a t s l) = by-room (ltb 256 (length b + length p)) refl
  where
    limited : h.state.arrived ≤ 256
    limited = rw a l

    clear : h.state.overrun ≡ false
    clear = rw a

    by-room : (y : Bool) → ltb 256 (length b + length p) ≡ y → Holds (left (sending p) h) (b ++ p)
    by-room true e =
        let m = ltb-true 256 (length b + length p) e in
        overruns h b p (decision_on h (length p))
        (sym (overrun-now h.state (length h.store) (length p) s limited clear (rw a m))) limited s (rw (length-append b p) m)
    by-room false e =
        let m = ltb-false 256 (length b + length p) e in
        fits h b p (decision_on h (length p)) (sym (open-to h.state (length h.store) (length p) s limited clear (rw a m) (rw a))) a t s
        m

all-sent : (h : Held) (b : List ℕ) (ps : List (List ℕ)) → Holds h b → Holds (sent ps h) (b ++ joined ps)
all-sent h b [] w = rw (append-nil b) w
all-sent h b (p ∷ ps) w = rw (← append_assoc b p (joined ps)) (all-sent (left (sending p) h) (b ++ p) ps (one_more h b p w))

-- ---- the end
long-request : (v : Version) (head : List ℕ → Outcome Heading) (p : List ℕ) → 256 < length p
    → read_request_by v head p ≡ refuse_request Long
unfolding payload_read_by
long-request v head p h = rw (lt-ltb 256 (length p) h)

long-configuration : (v : Version) (head : List ℕ → Outcome Heading) (p : List ℕ) → 256 < length p
    → read_configuration_by v head p ≡ refuse_configuration Long
unfolding payload_read_by
long-configuration v head p h = rw (lt-ltb 256 (length p) h)

end_reads : (r : Reader) (h : Held) (b : List ℕ) → decision_on h 0 ≡ Open → take h.state.arrived h.store ≡ b
    → told (ending r) h ≡ whole_read r b
end_reads (request v strict) h b e t = rw (e, t)
end_reads (configuration v strict) h b e t = rw (e, t)

end-long : (r : Reader) (h : Held) (b : List ℕ) → decision_on h 0 ≡ Overrun → 256 < length b → told (ending r) h ≡ whole_read r b
end-long (request v strict) h b e l = rw (e, long-request v (head_by strict) b l)
end-long (configuration v strict) h b e l = rw (e, long-configuration v (head_by strict) b l)

end_whole : (r : Reader) (h : Held) (b : List ℕ) → Holds h b → told (ending r) h ≡ whole_read r b
end_whole r h b (over o m s l) = end-long r h b (sym (overrun-before h.state (length h.store) 0 s m o)) l
end_whole r h b (all a t s l) =
    end_reads r h b
    (sym (open-to h.state (length h.store) 0 s (rw a l) (rw a) (rw a (omega arith)) (rw a))) (rw a t)

pub end-reads-the-whole : EndReadsTheWhole
end-reads-the-whole h ps r s =
    end_whole r (sent ps (left resetting h)) (joined ps)
    (all-sent (left resetting h) [] ps (all refl refl s (omega arith)))
