-- The board's struct holds the node all along, and what it hands back is what the node answers: so the node's law speaks of it.
use Prim.Native.Nat.{ℕ}
use mathlib.Core.Path.{◌≡◌, refl, ap, sym, ◌∙◌, subst}
use mathlib.Core.List.{List, [], ◌∷◌, append-nil}
use native.Mathlib.Omega.{arith}
use Rattle.refusal.specs.Refusal.{Numbered}
use Rattle.refusal.specs.Verdict.{verdict_number}
use Rattle.byte_io.specs.BigEndian.{digits, bytes_of}
use Rattle.cojp.specs.Octets.{padded}
use Rattle.image.specs.Part.{RoundTrips}
use Rattle.link_key.specs.declared.Key.{Key}
use Rattle.protocol_version.specs.declared.Version.TheVariants.{Draft}
use Rattle.node.specs.Frames.{send, send_counter}
use Rattle.node.specs.Node.{made}
use Rattle.node.specs.declared.node.Node.{Node}
use Rattle.node_image.specs.Answers.{frame_key_image}
use Rattle.node_image.specs.Node.{node_image}
use Rattle.node_laws.specs.Calls.{NodeCall, sending, counted, perform}
use Rattle.node_call_laws.specs.Fits.{Callable, CallsFit}
use Rattle.node_history_laws.specs.counters.Example as example
use Rattle.node_history_laws.specs.counters.Example.{cafe, key, joining, kept, alone, beside, CountersExample}
use Rattle.node_history_laws.specs.counters.Rising.{after, Answers, Stays, CountersRise}
use Rattle.pothatch_laws.specs.Node.{NodeOutput, Called, NodeRuns}
use Rattle.pothatch_laws.specs.Runs.{Runs, none_made, next-made}
use Rattle.network_call_laws.specs.Counters.{handed_key, handed_counter, HoldsNode, CountersRiseInC, CountersInCExample}
use Rattle.network_call_laws.specs.Turn.{Accepted}
use Rattle.network_call_laws.proofs.Boards.{Holds, makes, from-image, load}
use Rattle.network_call_laws.proofs.ByteLists.{bytes-by}
use Rattle.network_call_laws.proofs.Playing.{call}
use Rattle.network_call_laws.proofs.Turns.{send-number, sends}

-- ---- any calls can be made, one after the other
abbrev AllCallable : List NodeCall → Type 0
AllCallable [] = Unit {0}
AllCallable (c ∷ cs) = Callable c × AllCallable cs

record Made (cs : List NodeCall) (s : List ℕ) : Type 0 where
  told : List NodeOutput
  left : List ℕ
  runs : Runs Called cs s told left

making : (cs : List NodeCall) (s : List ℕ) → AllCallable cs → Made cs s
making [] s a = record { told = []; left = s; runs = none_made }
making (c ∷ cs) s a =
    let x = call c s in
    let r = making cs x.after a.1 in
    record { told = x.told ∷ r.told; left = r.left; runs = next-made (record { callable = a.0; did = x.did }) r.runs }

module _ (numbers : Numbered) (law : NodeRuns) (fit : CallsFit) (lawful : RoundTrips node_image) (frame : RoundTrips frame_key_image) where
  held_after : (cs : List NodeCall) (n : Node) (s : List ℕ) (ts : List NodeOutput) (z : List ℕ) → Holds n s → Runs Called cs s ts z
      → Holds (after n cs) z
  held_after cs n s ts z h none_made = h
  held_after cs n s ts z h (next-made {c = c} {cs = ds} {y = y} {t = t} {ts = us} d r) =
      held_after ds (perform c n).node y us z (makes law fit c n s t y h d).holds r

  held : (n : Node) (s : List ℕ) → HoldsNode n s → Holds n s
  held n s h = subst (λ (m : Node). Holds m s) h.loaded (from-image lawful s h.bytes h.image)

  module _ (n : Node) (type : ℕ) (s : List ℕ) (h : Holds n s) (a : NodeOutput) (s' : List ℕ) (d : Accepted (sending type) s a s') where
    -- key and counter of the struct
    handed : frame_key_image.get a.struct ≡ ((send n type).key, send_counter n type)
    handed =
        let x = sends numbers law fit n type s a s' h d in
        ap frame_key_image.get (x.struct ∙ sym (append-nil (frame_key_image.put ((send n type).key, send_counter n type))))
        ∙ frame.loaded ((send n type).key, send_counter n type) [] x.fits

    answers : Answers n type (handed_key a) (handed_counter a)
    unfolding perform
    answers = record {
      accepted = (sends numbers law fit n type s a s' h d).accepted;
      object = ap (λ (p : Key × ℕ). counted p.0 p.1) (sym handed);
    }

    sent-on : Holds (perform (sending type) n).node s'
    sent-on = (makes law fit (sending type) n s a s' h d.called).holds

  pub counters-in-c : CountersRise → CountersRiseInC
  counters-in-c rise = record {
    rises = λ version role network first f before ts s r type a s' d between us z q stays again b z' e same.
        let n = (made version role network).node in
        let m = after n before in
        let h = held_after before n first ts s (held n first f) r in
        let o = sent-on m type s h a s' d in
        let k = held_after between (perform (sending type) m).node s' us z o q in
        rise.rises version role network before type (handed_key a) (handed_counter a) (answers m type s h a s' d) between
        (subst (λ (x : Node). Stays (handed_key a) x between) (load lawful law fit (perform (sending type) m).node s' o) stays)
        again (handed_key b) (handed_counter b)
        (answers (after (perform (sending type) m).node between) again z k b z' e) same;
    never-last = λ n s f type a s' d e.
        rise.never-last n type (handed_key a) (handed_counter a) (answers n type s (held n s f) a s' d) e;
  }

  -- ---- the example
  fresh-node : HoldsNode (made Draft 1 cafe).node (node_image.put (made Draft 1 cafe).node)
  unfolding bytes_of digits padded made
  fresh-node = record { bytes = bytes-by (node_image.put (made Draft 1 cafe).node) refl; image = refl; loaded = refl }

  joining-made : AllCallable joining
  joining-made = ((omega arith, omega arith), ((omega arith, bytes-by alone refl), tt))

  kept-made : AllCallable kept
  kept-made = ((omega arith, bytes-by beside refl), tt)

  -- a board whose node answers with a key and a counter hands them back
  module _ (n : Node) (s : List ℕ) (h : Holds n s) (k : Key) (c : ℕ) (w : Answers n 1 k c) where
    hands : Accepted (sending 1) s (call (sending 1) s).told (call (sending 1) s).after
    unfolding perform
    hands =
        let x = call (sending 1) s in
        let d : Called (sending 1) s x.told x.after = record { callable = omega arith; did = x.did } in
        record {
          called = d;
          accepted = send-number numbers law fit n 1 s x.told x.after h d ∙ ap verdict_number w.accepted;
        }

    hands-key : (handed_key (call (sending 1) s).told ≡ k) × (handed_counter (call (sending 1) s).told ≡ c)
    unfolding perform
    hands-key =
        let x = call (sending 1) s in
        let e = handed n 1 s h x.told x.after hands in
        let o : counted (send n 1).key (send_counter n 1) ≡ counted k c = w.object in
        let key-is : (send n 1).key ≡ k = cc in
        let counter-is : send_counter n 1 ≡ c = cc in
        (ap (λ (p : Key × ℕ). p.0) e ∙ key-is, ap (λ (p : Key × ℕ). p.1) e ∙ counter-is)

  pub counters-played : CountersExample → CountersInCExample
  counters-played w =
      let n = (made Draft 1 cafe).node in
      let first = node_image.put n in
      let p = making joining first joining-made in
      let h = held_after joining n first p.told p.left (held n first fresh-node) p.runs in
      let x = call (sending 1) p.left in
      let d = hands example.joined p.left h key 0 w.first in
      let i = hands-key example.joined p.left h key 0 w.first in
      let o = sent-on example.joined 1 p.left h x.told x.after d in
      let q = making kept x.after kept-made in
      let g = held_after kept example.sent x.after q.told q.left o q.runs in
      let y = call (sending 1) q.left in
      let e = hands (after example.sent kept) q.left g key 1 w.second in
      let j = hands-key (after example.sent kept) q.left g key 1 w.second in
      record {
        first = first;
        fresh = fresh-node;
        told = p.told;
        ready = p.left;
        joins = p.runs;
        once = x.told;
        sent = x.after;
        sends = d;
        told-between = q.told;
        updated = q.left;
        keeps = q.runs;
        stays =
            subst (λ (k : Key). Stays k (node_image.get x.after) kept) (sym i.0)
            (subst (λ (m : Node). Stays key m kept) (sym (load lawful law fit example.sent x.after o)) w.stays);
        twice = y.told;
        end = y.after;
        sends-again = e;
        same_key_lem = (i.0, j.0);
        counters = (i.1, j.1);
      }
