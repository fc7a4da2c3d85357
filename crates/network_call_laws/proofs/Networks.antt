-- Place by place the structs hold the nodes of the network, and each event keeps that: it changes the same places of both.
use Prim.Native.Nat.{ℕ, zero, suc, ◌<◌}
use mathlib.Core.Path.{◌≡◌, refl, ap, ap₂, ◌∙◌}
use mathlib.Core.List.{List, [], ◌∷◌}
use native.Mathlib.Omega.{arith}
use lib.ListN.{length, set, length-set}
use Rattle.refusal.specs.Refusal.{Numbered}
use Rattle.image.specs.Part.{RoundTrips}
use Rattle.key_image.specs.Laws.{KeyImages}
use Rattle.link_key.specs.Laws.{SameKeyLaws}
use Rattle.node.specs.declared.node.Node.{Node}
use Rattle.node_image.specs.Node.{node_image}
use Rattle.node_call_laws.specs.Fits.{CallsFit}
use Rattle.network.specs.Events.{Event, step, run}
use Rattle.network.specs.Network.{Network, node_at, with_node}
use Rattle.pothatch_laws.specs.Node.{NodeRuns}
use Rattle.pothatch_laws.specs.Runs.{Runs, none_made, next-made, answers}
use Rattle.network_call_laws.specs.Network.{Structs, struct_at, Images, loaded, stored, Answer, of-turn}
use Rattle.network_call_laws.specs.Network.{of-call, Did, turned, called, tells, after, NetworkRuns}
use Rattle.network_call_laws.proofs.Boards.{Holds, makes, image, from-image, load}
use Rattle.network_call_laws.proofs.Keys.{identifier-in, same_bytes, same_key_lem}
use Rattle.network_call_laws.proofs.Turns.{plays}

-- ---- place by place
pub data Hold : Network → Structs → Type 0 where
  none : Hold [] []
  more : {n : Node} {s : List ℕ} {net : Network} {z : Structs} → Holds n s → Hold net z → Hold (n ∷ net) (s ∷ z)

pub hold_at : {net : Network} {z : Structs} (i : ℕ) → Hold net z → i < length z → Holds (node_at net i) (struct_at z i)
unfolding node_at
hold_at i none l = absurd (omega (arith, l))
hold_at zero (more h r) l = h
hold_at (suc i) (more h r) l = hold_at i r (omega (arith, l))

hold-with : {net : Network} {z : Structs} (i : ℕ) {n : Node} {s : List ℕ} → Hold net z → Holds n s → Hold (with_node net i n) (set z i s)
unfolding with_node
hold-with i none h = none
hold-with zero (more g r) h = more h r
hold-with (suc i) (more g r) h = more g (hold-with i r h)

-- an event keeps the number of structs
pub did-length : {e : Event} {x y : Structs} {t : Answer} → Did e x t y → length y ≡ length x
did-length {x = x} (turned {i = i} {j = j} {s' = s} {w' = w} l k f d) = length-set (set x i s) j w ∙ length-set x i s
did-length {x = x} (called {i = i} {s' = s} l d) = length-set x i s

pub runs-length : {es : List Event} {x z : Structs} {ts : List Answer} → Runs Did es x ts z → length z ≡ length x
runs-length none_made = refl
runs-length (next-made d r) = runs-length r ∙ did-length d

pub from-images : RoundTrips node_image → (z : Structs) → Images z → Hold (loaded z) z
from-images lawful [] b = none
from-images lawful (s ∷ z) b =
    let h = b 0 (omega arith) in
    more (from-image lawful s h.0 h.1) (from-images lawful z (λ i l. b (suc i) (omega (arith, l))))

module _ (numbers : Numbered) (images : KeyImages) (same : SameKeyLaws) (law : NodeRuns) (fit : CallsFit) where
  stored-so : {net : Network} {z : Structs} → Hold net z → z ≡ stored net
  stored-so none = refl
  stored-so (more h r) = ap₂ (λ (s : List ℕ) (z : Structs). s ∷ z) (image law fit h) (stored-so r)

  pub loaded-so : RoundTrips node_image → {net : Network} {z : Structs} → Hold net z → loaded z ≡ net
  loaded-so lawful none = refl
  loaded-so lawful (more {n = n} {s = s} h r) = ap₂ (λ (m : Node) (net : Network). m ∷ net) (load lawful law fit n s h) (loaded-so lawful r)

  -- ---- one event
  pub record Step (e : Event) (net : Network) (t : Answer) (z : Structs) : Type 0 where
    pub told : t ≡ tells e net
    pub hold : Hold (step net e) z

  pub does : (e : Event) (net : Network) (x : Structs) (t : Answer) (y : Structs) → Hold net x → Did e x t y → Step e net t y
  unfolding step
  does e net x t y h (turned {i = i} {j = j} {type = type} {r = r} {c = c} {s' = s} {w' = w} l k f d) =
      let p =
      plays numbers images same law fit (node_at net i) (node_at net j) type (struct_at x i) (struct_at x j) (hold_at i h l) (hold_at j h k) r c
      s w d
      in
      record { told = ap₂ of-turn p.number p.code; hold = hold-with j (hold-with i h p.sender) p.receiver }
  does e net x t y h (called {i = i} {c = c} {t = a} {s' = s} l d) =
      let p = makes law fit c (node_at net i) (struct_at x i) a s (hold_at i h l) d in
      record { told = ap of-call p.told; hold = hold-with i h p.holds }

  -- ---- lists of them
  pub record Ran (es : List Event) (net : Network) (ts : List Answer) (z : Structs) : Type 0 where
    pub told : ts ≡ answers tells after es net
    pub hold : Hold (run net es) z

  pub ran : (es : List Event) (net : Network) (x : Structs) (ts : List Answer) (z : Structs) → Hold net x → Runs Did es x ts z
      → Ran es net ts z
  unfolding run
  ran es net x ts z h none_made = record { told = refl; hold = h }
  ran es net x ts z h (next-made {c = e} {cs = ds} {y = y} {t = t} {ts = us} d r) =
      let p = does e net x t y h d in
      let q = ran ds (step net e) y us z p.hold r in
      record { told = ap₂ (λ (a : Answer) (bs : List Answer). a ∷ bs) p.told q.told; hold = q.hold }

  pub network-runs : RoundTrips node_image → NetworkRuns
  network-runs lawful =
      record {
        same_bytes = same_bytes images same;
        same_key_lem = same_key_lem images same;
        identifier = identifier-in;
        runs = λ es x ts z i r.
            let p = ran es (loaded x) x ts z (from-images lawful x i) r in
            record { told = p.told; structs = stored-so p.hold; nodes = loaded-so lawful p.hold };
      }
