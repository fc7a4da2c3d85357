-- How a node stands to the new set, and what a turn makes of it: a receiver that waits with the set pending switches exactly when a node
-- that has it active sends. One lemma for each pair of kinds, by the node's laws.
use Prim.Native.Nat.{ℕ}
use mathlib.Core.Path.{◌≡◌, refl, sym, ◌∙◌}
use mathlib.Core.Logic.{⊎_elim}
use mathlib.Core.List.{List, [], Memᴰ}
use Rattle.link_key.specs.set.KeySet.{Apart}
use Rattle.link_key.specs.declared.Key.{Key}
use Rattle.node.specs.Node.{active_of, pending_of}
use Rattle.node.specs.Range.{Valid}
use Rattle.node.specs.Frames.{send}
use Rattle.node_laws.specs.Laws.{KeysStay, CanSend, Sends, NodeLaws}
use Rattle.node.specs.declared.node.Node.{Node}
use Rattle.network.specs.Events.{Under}
use Rattle.network_turn.specs.Turn.{turn}
use Rattle.network.proofs.Turns.{Moved, receiver-either, receiver-switches}

-- no identifier of the new set, active or pending; the set pending beside an active one apart from it; the set active, and none pending
pub data Kind : Type 0 where
  apart : Kind
  old : Kind
  new : Kind

-- it has not switched; it holds the set, active or pending
abbrev pub Quiet : Kind → Type 0
Quiet apart = Unit {0}
Quiet old = Unit {0}
Quiet new = ⊥

abbrev pub Carries : Kind → Type 0
Carries apart = ⊥
Carries old = Unit {0}
Carries new = Unit {0}

pub record IsApart (ks : List Key) (n : Node) : Type 0 where
  pub valid : Valid n
  pub active : Apart (active_of n) ks
  pub pending : Apart (pending_of n) ks

pub record IsOld (ks : List Key) (n : Node) : Type 0 where
  pub valid : Valid n
  pub active : Apart (active_of n) ks
  pub pending : pending_of n ≡ ks

pub record IsNew (ks : List Key) (n : Node) : Type 0 where
  pub valid : Valid n
  pub active : active_of n ≡ ks
  pub pending : pending_of n ≡ []

abbrev pub Is : List Key → Kind → Node → Type 0
Is ks apart n = IsApart ks n
Is ks old n = IsOld ks n
Is ks new n = IsNew ks n

pub kind-valid : (ks : List Key) (n : Node) (kind : Kind) → Is ks kind n → Valid n
kind-valid ks n apart w = w.valid
kind-valid ks n old w = w.valid
kind-valid ks n new w = w.valid

pub none_apart : (ks : List Key) → Apart [] ks
none_apart ks k l m = absurd (mathlib.Core.List.Memᴰ.not-nil m)

-- a node that keeps its keys keeps its kind
pub stays-is : (ks : List Key) {n m : Node} (kind : Kind) → KeysStay n m → Is ks kind n → Is ks kind m
stays-is ks apart q w = record { valid = q.valid w.valid; active = rw q.active w.active; pending = rw q.pending w.pending }
stays-is ks old q w = record { valid = q.valid w.valid; active = rw q.active w.active; pending = q.pending ∙ w.pending }
stays-is ks new q w = record { valid = q.valid w.valid; active = q.active ∙ w.active; pending = q.pending ∙ w.pending }

-- the receiver's kind after a turn, by the kinds of sender and receiver
abbrev pub becomes : Kind → Kind → Kind
becomes apart kind = kind
becomes old kind = kind
becomes new apart = apart
becomes new old = new
becomes new new = new

module _ (L : NodeLaws) (ks : List Key) (a b : Node) (type : ℕ) where
  -- whoever sends, a node apart stays so, even where it switches to another set; and one that has switched has nothing to switch to
  apart-receives : IsApart ks b → IsApart ks (turn a b type).receiver
  apart-receives w = ⊎_elim (λ q. stays-is ks apart q w) moved (receiver-either L a b type)
    where
      moved : Moved a b type (turn a b type).receiver → IsApart ks (turn a b type).receiver
      moved d = record {
        valid = d.switched.valid w.valid;
        active = rw d.switched.active w.pending;
        pending = rw d.switched.pending (none_apart ks);
      }

  new-receives : IsNew ks b → IsNew ks (turn a b type).receiver
  new-receives w = ⊎_elim (λ q. stays-is ks new q w) moved (receiver-either L a b type)
    where
      moved : Moved a b type (turn a b type).receiver → IsNew ks (turn a b type).receiver
      moved d = absurd (mathlib.Core.List.Memᴰ.not-nil (rw w.pending at d.by.member))

  -- a waiting node receives nothing under the set from a sender apart from it
  old-receives-other : Apart (active_of a) ks → IsOld ks b → IsOld ks (turn a b type).receiver
  old-receives-other other w = ⊎_elim (λ q. stays-is ks old q w) moved (receiver-either L a b type)
    where
      moved : Moved a b type (turn a b type).receiver → IsOld ks (turn a b type).receiver
      moved d =
          absurd (other (send a type).key d.by.key d.sends.member (rw w.pending at d.by.member) (sym d.by.identified))

  -- and it switches when one sends that has it
  old-receives-new : CanSend a type → IsNew ks a → IsOld ks b → IsNew ks (turn a b type).receiver
  old-receives-new can s w =
      let sends : Sends a type = L.can-send a type s.valid can in
      let member : Memᴰ (send a type).key ks = rw s.active at sends.member in
      let d = receiver-switches L a b type w.valid sends (λ k m e. w.active k (send a type).key m member e) (rw w.pending member) in
      record { valid = d.valid w.valid; active = d.active ∙ w.pending; pending = d.pending }

  -- the table, where a sender that has switched can send
  pub turn-becomes : (s k : Kind) → (s ≡ new → CanSend a type) → Is ks s a → Is ks k b → Is ks (becomes s k) (turn a b type).receiver
  turn-becomes apart apart c p q = apart-receives q
  turn-becomes apart old c p q = old-receives-other p.active q
  turn-becomes apart new c p q = new-receives q
  turn-becomes old apart c p q = apart-receives q
  turn-becomes old old c p q = old-receives-other p.active q
  turn-becomes old new c p q = new-receives q
  turn-becomes new apart c p q = apart-receives q
  turn-becomes new old c p q = old-receives-new (c refl) p q
  turn-becomes new new c p q = new-receives q

module _ (L : NodeLaws) (ks : List Key) (a : Node) (type : ℕ) where
  -- a node that has not switched sends nothing under the set
  other-sends : Apart (active_of a) ks → Under ks (send a type) → ⊥
  other-sends other u = other (send a type).key (send a type).key (L.send-from a type u.accepted).member u.member refl

  pub quiet-sends : (s : Kind) → Quiet s → Is ks s a → Under ks (send a type) → ⊥
  quiet-sends apart f w = other-sends w.active
  quiet-sends old f w = other-sends w.active
  quiet-sends new f w = absurd f
