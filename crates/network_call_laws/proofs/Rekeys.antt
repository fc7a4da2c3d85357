-- The structs hold the network's nodes all along, so demand 3 speaks of what stands in them, and of what their boards answer.
use Prim.Native.Nat.{ℕ, ◌<◌}
use mathlib.Core.Path.{◌≡◌, refl, ap, sym, ◌∙◌, subst}
use mathlib.Core.List.{List, [], ◌∷◌, ◌++◌, append_assoc, Memᴰ}
use lib.ListN.{length, length-map}
use Rattle.refusal.specs.Refusal.{Numbered}
use Rattle.refusal.specs.Verdict.{verdict_number}
use Rattle.image.specs.Part.{RoundTrips}
use Rattle.key_image.specs.Laws.{KeyImages}
use Rattle.link_key.specs.Laws.{SameKeyLaws}
use Rattle.link_key.specs.declared.Key.{Key}
use Rattle.node.specs.Frames.{send, send_counter}
use Rattle.node.specs.declared.node.Node.{Node}
use Rattle.node_attempt.specs.declared.delivery.Delivery.{Delivery}
use Rattle.node_image.specs.Answers.{frame_key_image}
use Rattle.node_image.specs.Node.{node_image}
use Rattle.node_laws.specs.Calls.{sending, delivering, perform}
use Rattle.node_laws.specs.Laws.{Takes}
use Rattle.node_call_laws.specs.Fits.{CallsFit}
use Rattle.network.specs.Demand3.{NoneUsedUp, NoneSendsUnder, Rekeyed, handed, Demand3}
use Rattle.network.specs.Events.{Event, calling, step, run, Admissible, Throughout, Under}
use Rattle.network.specs.Network.{Network, node_at}
use Rattle.pothatch_laws.specs.Node.{NodeOutput, Called, NodeRuns}
use Rattle.pothatch_laws.specs.Runs.{Runs, none_made, next-made}
use Rattle.network_call_laws.specs.Network.{Structs, struct_at, loaded, Answer, Did}
use Rattle.network_call_laws.specs.Rekey.{HandsOneOf, NoneSends, AtEach, at-end, at_next, Follows, Demand3InC}
use Rattle.network_call_laws.specs.Turn.{Accepted}
use Rattle.network_call_laws.proofs.Boards.{Holds, load}
use Rattle.network_call_laws.proofs.Keys.{key-loaded}
use Rattle.network_call_laws.proofs.Networks.{Hold, hold_at, did-length, runs-length, from-images, loaded-so, does, ran}
use Rattle.network_call_laws.proofs.Turns.{Sent, send-number, sends}

-- ---- lists of events, cut in two
front : (net : Network) (p es : List Event) → Admissible net (p ++ es) → Admissible net p
unfolding Admissible
front net [] es a = tt
front net (e ∷ p) es a = (a.0, front (step net e) p es a.1)

run_on : (net : Network) (p : List Event) (e : Event) → run net (p ++ (e ∷ [])) ≡ step (run net p) e
unfolding run
run_on net [] e = refl
run_on net (d ∷ p) e = run_on (step net d) p e

start : (net : Network) (x : Structs) → Hold net x → Hold (run net []) x
unfolding run
start net x h = h

module _ (numbers : Numbered) (images : KeyImages) (same : SameKeyLaws) (law : NodeRuns) (fit : CallsFit) (lawful : RoundTrips node_image)
    (frame : RoundTrips frame_key_image) where
  -- ---- one board
  module _ (new : List Key) (type : ℕ) (n : Node) (s : List ℕ) (holds : Holds n s) where
    -- the key that it hands back is the one that the node answers
    handed-key : (a : NodeOutput) (s' : List ℕ) → Sent n type a s' → (frame_key_image.get a.struct).0 ≡ (send n type).key
    handed-key a s' x =
        ap (λ (k : List ℕ). (frame_key_image.get k).0) x.struct
        ∙ key-loaded frame (send n type).key (send_counter n type) x.fits

    under : (a : NodeOutput) (s' : List ℕ) → Accepted (sending type) s a s' → HandsOneOf new a → Under new (send n type)
    under a s' d m =
        let x = sends numbers law fit n type s a s' holds d in
        record { accepted = x.accepted; member = subst (λ (k : Key). Memᴰ k new) (handed-key a s' x) m }

    hands : Under new (send n type) → (a : NodeOutput) (s' : List ℕ) → Called (sending type) s a s' → (a.number ≡ 0) × HandsOneOf new a
    hands u a s' d =
        let e = send-number numbers law fit n type s a s' holds d ∙ ap verdict_number u.accepted in
        let x = sends numbers law fit n type s a s' holds (record { called = d; accepted = e }) in
        (e, subst (λ (k : Key). Memᴰ k new) (sym (handed-key a s' x)) u.member)

    follows : Rekeyed new type n → Follows new type s
    follows r =
        record { node = subst (Rekeyed new type) (sym (load lawful law fit n s holds)) r; sends = hands r.sends }

  -- ---- the boards
  none-sends : (new : List Key) (net : Network) (es : List Event) (x : Structs) → length x ≡ length net → Hold (run net es) x
      → NoneSendsUnder new net es → NoneSends new x
  none-sends new net es x e h f i type a s' l d m =
      f.at-end i type (subst (λ (k : ℕ). i < k) e l)
      (under new type (node_at (run net es) i) (struct_at x i) (hold_at i h l) a s' d m)

  -- at each moment the events that were played are a list of admissible ones, of which demand 3 speaks
  each : (new : List Key) (net : Network) → ((es : List Event) → Admissible net es → NoneSendsUnder new net es) → (p es : List Event)
      (x : Structs) (ts : List Answer) (z : Structs) → length x ≡ length net → Hold (run net p) x → Admissible net (p ++ es)
      → Runs Did es x ts z → AtEach (NoneSends new) es x ts z
  each new net claim p es x ts z l h a none_made = at-end (none-sends new net p x l h (claim p (front net p es a)))
  each new net claim p es x ts z l h a (next-made {c = e} {cs = ds} {y = y} {t = t} {ts = us} d r) =
      at_next (none-sends new net p x l h (claim p (front net p es a))) d
      (each new net claim (p ++ (e ∷ [])) ds y us z (did-length d ∙ l)
      (subst (λ (m : Network). Hold m y) (sym (run_on net p e)) (does numbers images same law fit e (run net p) x t y h d).hold)
      (subst (Admissible net) (sym (append_assoc p (e ∷ []) ds)) a) r)

  abbrev same_nodes : {net : Network} {z : Structs} → Hold net z → loaded z ≡ net
  same_nodes = loaded-so numbers images same law fit lawful

  -- the border router's board was handed the set
  took : (net : Network) (border : ℕ) (delivery : Delivery) (time : ℕ) (payload : List ℕ) (x : Structs) (t : Answer) (y : Structs)
      → Hold net x → Did (calling border (delivering delivery time payload)) x t y → Hold (handed net border delivery time payload) y
  unfolding step perform
  took net border delivery time payload x t y h d =
      (does numbers images same law fit (calling border (delivering delivery time payload)) net x t y h d).hold

  pub demand3-in-c : Demand3 → Demand3InC
  unfolding Demand3 Demand3InC
  demand3-in-c demand structs border new type i supposed before ts x r come =
      let net = loaded structs in
      let size : length net ≡ length structs = length-map structs node_image.get in
      let claim = demand net border new type supposed before come in
      let p = ran numbers images same law fit before net structs ts x (from-images lawful structs i) r in (
        each new net (λ es a. (demand net border new type supposed es a).0) [] before structs ts x (sym size)
            (start net structs (from-images lawful structs i)) come r,
        λ unspent delivery time payload t y d takes links h later us z runs comes linked rounds unspent-later j l hops.
            let g = took (run net before) border delivery time payload x t y p.hold d in
            let q = ran numbers images same law fit later (handed (run net before) border delivery time payload) y us z g runs in
            let e = same_nodes g in
            let inside : j < length z =
            subst (λ (k : ℕ). j < k) (sym (runs-length runs ∙ did-length d ∙ runs-length r)) l in
            follows new type (node_at (run (handed (run net before) border delivery time payload) later) j) (struct_at z j)
            (hold_at j q.hold inside)
            (claim.1 unspent delivery time payload
            (subst (λ (m : Network). Takes delivery (node_at m border) time payload new) (same_nodes p.hold) takes) links h later
            (subst (λ (m : Network). Admissible m later) e comes) linked rounds
            (subst (λ (m : Network). Throughout (NoneUsedUp new type) m later) e unspent-later) j
            (subst (λ (k : ℕ). j < k) (sym size) l) hops),
      )
