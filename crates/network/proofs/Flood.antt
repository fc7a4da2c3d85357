-- How the kinds of a network's nodes move by its events: only a waiting receiver of a switched sender changes. So nothing moves where no
-- node has switched, and rounds carry the set as many hops as they are many. Nothing here speaks of the nodes.
use Prim.Native.Nat.{ℕ}
use mathlib.Core.Path.{◌≡◌, refl, sym, ◌∙◌, ap}
use mathlib.Core.Bool.{Bool, true, false, cond}
use mathlib.Core.List.{List, [], ◌∷◌, ◌++◌, Memᴰ}
use lib.Dec.{eqb}
use borrow.Author.Tests.{eqb-true, eq-eqb}
use Rattle.network.specs.Events.{Event, turning, calling}
use Rattle.network.specs.Rounds.{Links, Neighbours, Hops, here, hop, Rounds, none, more}
use Rattle.network.proofs.Receiving.{Kind, apart, old, new, Quiet, Carries, becomes}

-- the kind of the node at each place
abbrev pub Kinds : Type 0
Kinds = ℕ → Kind

abbrev pub with : Kinds → ℕ → Kind → Kinds
with kinds j kind k = cond (eqb k j) kind (kinds k)

abbrev pub moves : Kinds → Event → Kinds
moves kinds (turning i j type) = with kinds j (becomes (kinds i) (kinds j))
moves kinds (calling i c) = kinds

abbrev pub flows : Kinds → List Event → Kinds
flows kinds [] = kinds
flows kinds (e ∷ es) = flows (moves kinds e) es

pub flows-append : (kinds : Kinds) (xs ys : List Event) → flows kinds (xs ++ ys) ≡ flows (flows kinds xs) ys
flows-append kinds [] ys = refl
flows-append kinds (x ∷ xs) ys = flows-append (moves kinds x) xs ys

-- what holds of a node's kind, and of what it becomes as a receiver, holds after an event
moves-to :
    (P : Kind → Type 0) (kinds : Kinds) (k : ℕ) (e : Event) → P (kinds k) → ((s : Kind) → P (becomes s (kinds k))) →
    P (moves kinds e k)
moves-to P kinds k (turning i j type) p f = go (eqb k j) refl
  where
    go : (x : Bool) → eqb k j ≡ x → P (cond x (becomes (kinds i) (kinds j)) (kinds k))
    go true e = rw (sym (eqb-true k j e)) (f (kinds i))
    go false e = p
moves-to P kinds k (calling i c) p f = p

-- ---- where no node has switched, nothing moves
quiet-becomes : (s k : Kind) → Quiet s → becomes s k ≡ k
quiet-becomes apart k q = refl
quiet-becomes old k q = refl
quiet-becomes new k q = absurd q

pub still : (kinds : Kinds) → ((i : ℕ) → Quiet (kinds i)) → (e : Event) (k : ℕ) → moves kinds e k ≡ kinds k
still kinds q (turning i j type) k = go (eqb k j) refl
  where
    go : (x : Bool) → eqb k j ≡ x → cond x (becomes (kinds i) (kinds j)) (kinds k) ≡ kinds k
    go true e = quiet-becomes (kinds i) (kinds j) (q i) ∙ ap kinds (sym (eqb-true k j e))
    go false e = refl
still kinds q (calling i c) k = refl

-- ---- a node that has switched stays so, and one that holds the set goes on holding it
becomes-new : (s : Kind) → becomes s new ≡ new
becomes-new apart = refl
becomes-new old = refl
becomes-new new = refl

becomes-carries : (s k : Kind) → Carries k → Carries (becomes s k)
becomes-carries apart k h = h
becomes-carries old k h = h
becomes-carries new apart h = h
becomes-carries new old h = h
becomes-carries new new h = h

flows-new : (kinds : Kinds) (k : ℕ) (es : List Event) → kinds k ≡ new → flows kinds es k ≡ new
flows-new kinds k [] w = w
flows-new kinds k (e ∷ es) w =
    flows-new (moves kinds e) k es (moves-to (λ x. x ≡ new) kinds k e w (λ s. ap (becomes s) w ∙ becomes-new s))

flows-carries : (kinds : Kinds) (k : ℕ) (es : List Event) → Carries (kinds k) → Carries (flows kinds es k)
flows-carries kinds k [] h = h
flows-carries kinds k (e ∷ es) h =
    flows-carries (moves kinds e) k es (moves-to Carries kinds k e h (λ s. becomes-carries s (kinds k) h))

-- ---- a turn of a node that has switched with one that holds the set
becomes-switches : (k : Kind) → Carries k → becomes new k ≡ new
becomes-switches apart h = absurd h
becomes-switches old h = refl
becomes-switches new h = refl

switches : (kinds : Kinds) (i j type : ℕ) → kinds i ≡ new → Carries (kinds j) → moves kinds (turning i j type) j ≡ new
switches kinds i j type w h = rw (eq-eqb j j refl, w) (becomes-switches (kinds j) h)

switches-in :
    (kinds : Kinds) (i j type : ℕ) (es : List Event) → kinds i ≡ new → Carries (kinds j) → Memᴰ (turning i j type) es →
    flows kinds es j ≡ new
switches-in kinds i j type (e ∷ es) w h (Memᴰ.head q) =
    flows-new (moves kinds e) j es (rw (sym q) (switches kinds i j type w h))
switches-in kinds i j type (e ∷ es) w h (Memᴰ.tail m) =
    switches-in (moves kinds e) i j type es (flows-new kinds i (e ∷ []) w) (flows-carries kinds j (e ∷ []) h) m
switches-in kinds i j type [] w h m = elim m [ ]

-- ---- rounds and hops, each hop to a neighbour that holds the set
module _ (links : Links) (type : ℕ) (next : ℕ → ℕ → Type 0) (linked : (i j : ℕ) → next i j → Neighbours links i j) where
  pub far :
      {h i k : ℕ} {es : List Event} (kinds : Kinds) → Rounds links type h es → Hops next h i k →
      ((i j : ℕ) → next i j → Carries (kinds j)) → kinds i ≡ new → flows kinds es k ≡ new
  far {i = i} {es = es} kinds none here holds w = flows-new kinds i es w
  far {i = i} {es = es} kinds (more first r rs) here holds w = flows-new kinds i es w
  far kinds (more {es = es} first r rs) (hop {i = i} {j = j} {k = k} n hs) holds w =
      rw (flows-append kinds first es)
      (far (flows kinds first) rs hs (λ x y m. flows-carries kinds y first (holds x y m))
      (switches-in kinds i j type first w (holds i j n) (r i j (linked i j n))))
