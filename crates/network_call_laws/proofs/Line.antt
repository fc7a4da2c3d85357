-- The line's events can be played on its structs, which hold the nodes that the network's witness computes; and demand 3 in C is applied.
use Prim.Native.Nat.{ℕ, zero, suc, ◌<◌}
use mathlib.Core.Path.{◌≡◌, refl, ap, sym, ◌∙◌, subst}
use mathlib.Core.List.{List, [], ◌∷◌, ◌++◌}
use native.Mathlib.Omega.{arith}
use lib.ListN.{length}
use Rattle.byte_io.specs.BigEndian.{digits, bytes_of}
use Rattle.cojp.specs.Octets.{padded}
use Rattle.image.specs.Part.{AllBytes}
use Rattle.node.specs.Node.{active_of, pending_of}
use Rattle.node_attempt.specs.declared.delivery.Delivery.TheVariants.{Update}
use Rattle.node_image.specs.Node.{node_image}
use Rattle.node_laws.specs.Calls.{delivering, perform}
use Rattle.node_laws.specs.Laws.{Takes}
use Rattle.network.specs.Demand3.{Supposed, NoneUsedUp}
use Rattle.network.specs.Events.{Event, turning, calling, step, run, Admissible, Throughout}
use Rattle.network.specs.Network.{Network, node_at}
use Rattle.network.specs.RekeyExample.{new_keys, line, line_links, first, payload, taken, worst, twice, RekeyExample}
use Rattle.network_call_laws.specs.Line.{LineInC}
use Rattle.network_call_laws.specs.Network.{Structs, struct_at, Images, loaded, stored, Answer, Did, NetworkRuns}
use Rattle.network_call_laws.specs.Playing.{Playable, AllPlayable}
use Rattle.network_call_laws.specs.Rekey.{Demand3InC}
use Rattle.network_call_laws.proofs.ByteLists.{bytes-by}
use Rattle.network_call_laws.proofs.Playing.{play, events-play}
use Rattle.network_call_laws.proofs.Networks.{did-length, runs-length}
use Rattle.network_call_laws.proofs.Running.{runs_append}
use Rattle.pothatch_laws.specs.Runs.{Runs, none_made, next-made}

line-images : Images (stored line)
unfolding bytes_of padded
line-images zero l = (bytes-by (struct_at (stored line) 0) refl, refl)
line-images (suc zero) l = (bytes-by (struct_at (stored line) 1) refl, refl)
line-images (suc (suc zero)) l = (bytes-by (struct_at (stored line) 2) refl, refl)
line-images (suc (suc (suc i))) l = absurd (omega (arith, l))

line-nodes : loaded (stored line) ≡ line
unfolding bytes_of digits padded
line-nodes = refl

run-append : (net : Network) (es fs : List Event) → run net (es ++ fs) ≡ run (run net es) fs
unfolding run
run-append net [] fs = refl
run-append net (e ∷ es) fs = run-append (step net e) es fs

abbrev takes : Event
takes = calling 0 (delivering Update 20000 payload)

took : step (run line first) takes ≡ taken
unfolding step perform
took = refl

-- ---- what is played there can be
turns : (i j type : ℕ) → i < 3 → j < 3 → (i ≡ j → ⊥) → type < 256 → Playable 3 (turning i j type)
turns i j type l k f b = (l, k, f, b)

first-plays : AllPlayable 3 first
first-plays =
    let payload-plays : AllBytes payload = bytes-by payload refl in (
      turns 0 1 1 (omega arith) (omega arith) (λ e. absurd (omega (arith, e))) (omega arith),
      (
        turns 1 2 0 (omega arith) (omega arith) (λ e. absurd (omega (arith, e))) (omega arith),
        (
          turns 2 0 7 (omega arith) (omega arith) (λ e. absurd (omega (arith, e))) (omega arith),
          (
            (omega arith, (omega arith, bytes-by (0xA1 ∷ 0x02 ∷ 0x80 ∷ []) refl)),
            (
              (omega arith, (omega arith, payload-plays)),
              (
                (omega arith, (omega arith, payload-plays)),
                ((omega arith, (omega arith, omega arith)), ((omega arith, omega arith), ((omega arith, omega arith), tt))),
              ),
            ),
          ),
        ),
      ),
    )

worst-plays : AllPlayable 3 worst
worst-plays = (
  turns 2 1 1 (omega arith) (omega arith) (λ e. absurd (omega (arith, e))) (omega arith),
  (
    turns 1 2 1 (omega arith) (omega arith) (λ e. absurd (omega (arith, e))) (omega arith),
    (
      turns 1 0 1 (omega arith) (omega arith) (λ e. absurd (omega (arith, e))) (omega arith),
      (turns 0 1 1 (omega arith) (omega arith) (λ e. absurd (omega (arith, e))) (omega arith), tt),
    ),
  ),
)

plays-append : (k : ℕ) (es fs : List Event) → AllPlayable k es → AllPlayable k fs → AllPlayable k (es ++ fs)
plays-append k [] fs a b = b
plays-append k (e ∷ es) fs a b = (a.0, plays-append k es fs a.1 b)

twice-plays : AllPlayable 3 twice
twice-plays = plays-append 3 worst (worst ++ []) worst-plays (plays-append 3 worst [] worst-plays tt)

takes-plays : Playable 3 takes
takes-plays = (omega arith, (omega arith, bytes-by payload refl))

-- ---- the nodes that stand there afterwards
loaded_at : (z : Structs) (i : ℕ) → i < length z → node_at (loaded z) i ≡ node_image.get (struct_at z i)
unfolding node_at
loaded_at [] i l = absurd (omega (arith, l))
loaded_at (s ∷ z) zero l = refl
loaded_at (s ∷ z) (suc i) l = loaded_at z i (omega (arith, l))

module _ (law : NetworkRuns) where
  nodes-after : (es : List Event) (ts : List Answer) (z : Structs) → Runs Did es (stored line) ts z → loaded z ≡ run line es
  nodes-after es ts z r = (law.runs es (stored line) ts z line-images r).nodes ∙ ap (λ (net : Network). run net es) line-nodes

  nodes-later : (es : List Event) (ts : List Answer) (z : Structs) → Runs Did (first ++ (takes ∷ es)) (stored line) ts z
      → loaded z ≡ run taken es
  unfolding run
  nodes-later es ts z r =
      nodes-after (first ++ (takes ∷ es)) ts z r ∙ run-append line first (takes ∷ es) ∙ ap (λ (net : Network). run net es) took

  pub line-in-c : Demand3InC → RekeyExample → LineInC
  unfolding Demand3InC run
  line-in-c demand w =
      let p = events-play first (stored line) first-plays in
      let long : length p.left ≡ 3 = runs-length p.runs in
      let q = play takes p.left (subst (λ (k : ℕ). Playable k takes) (sym long) takes-plays) in
      let still : length q.after ≡ 3 = did-length q.did ∙ long in
      let o = events-play worst q.after (subst (λ (k : ℕ). AllPlayable k worst) (sym still) worst-plays) in
      let t = events-play twice q.after (subst (λ (k : ℕ). AllPlayable k twice) (sym still) twice-plays) in
      let x : loaded p.left ≡ run line first = nodes-after first p.told p.left p.runs in
      let y : loaded q.after ≡ taken =
      nodes-later [] (p.told ++ (q.told ∷ [])) q.after (runs_append Did p.runs (next-made q.did none_made)) in
      let z : loaded o.left ≡ run taken worst =
      nodes-later worst (p.told ++ (q.told ∷ o.told)) o.left (runs_append Did p.runs (next-made q.did o.runs)) in
      let far : node_image.get (struct_at o.left 2) ≡ node_at (run taken worst) 2 =
      sym (loaded_at o.left 2 (let e = runs-length o.runs ∙ still in omega (arith, e))) ∙ ap (λ (net : Network). node_at net 2) z in
      let claim =
      demand (stored line) 0 new_keys 1 line-images
      (subst (λ (net : Network). Supposed net 0 new_keys 1) (sym line-nodes) w.supposed) first p.told p.left p.runs
      (subst (λ (net : Network). Admissible net first) (sym line-nodes) w.before)
      in
      record {
        images = line-images;
        nodes = line-nodes;
        told = p.told;
        before = p.left;
        played = p.runs;
        none-sends = claim.0;
        answer = q.told;
        between = q.after;
        taken = q.did;
        told-once = o.told;
        once = o.left;
        one-round = o.runs;
        waits-active = ap active_of far ∙ w.one-round-active;
        waits-pending = ap pending_of far ∙ w.one-round-pending;
        told-twice = t.told;
        end = t.left;
        two-rounds = t.runs;
        follows =
            claim.1 (subst (λ (net : Network). Throughout (NoneUsedUp new_keys 1) net first) (sym line-nodes) w.unspent-before)
            Update 20000 payload q.told q.after q.did
            (subst (λ (net : Network). Takes Update (node_at net 0) 20000 payload new_keys) (sym x) w.takes) line_links 2 twice t.told
            t.left t.runs
            (subst (λ (net : Network). Admissible net twice) (sym y) w.after) w.linked w.rounds
            (subst (λ (net : Network). Throughout (NoneUsedUp new_keys 1) net twice) (sym y) w.unspent-after) 2 (omega arith) w.hops;
      }
