-- A valid node's address is one, and the node stays valid from call to call; the two are none, so a node with one of them is not valid.
use mathlib.Core.Path.{◌≡◌, refl, subst}
use mathlib.Core.Bool.{Bool, true, false, cond, ◌&&◌}
use mathlib.Core.List.{List, [], ◌∷◌}
use lib.Dec.{leb}
use Rattle.refusal.specs.Verdict.{verdict_number}
use Rattle.lemmas.specs.logic.Tests.{both_left, never}
use Rattle.short_address.specs.Address.{is_address, AddressLaws}
use Rattle.node.specs.Node.{clock_of, made}
use Rattle.node.specs.Range.{valid, Valid}
use Rattle.node.specs.declared.node.Node.{Node}
use Rattle.node_laws.specs.Addresses.{after_calls, HoldsReserved, NodeAddresses}
use Rattle.node_laws.specs.Answers.{AnswersSay}
use Rattle.node_laws.specs.Calls.{NodeCall, perform}
use Rattle.node_laws.specs.Laws.{NodeLaws}
use Rattle.node_laws.proofs.Valid.{address-valid}

module _ (A : AddressLaws) where
  not_valid : (n : Node) → HoldsReserved n → Valid n → ⊥
  not_valid n h v =
      let no = A.reserved n.address.value.bytes h.reserved in
      let received = leb n.address.received (clock_of n) in
      let yes = subst (λ (b : Bool). cond b (is_address n.address.value.bytes && received) true ≡ true) h.held (address-valid n v) in
      never (is_address n.address.value.bytes) (both_left (is_address n.address.value.bytes) received yes) no

  module _ (L : NodeLaws) (S : AnswersSay) where
    after-valid : (cs : List NodeCall) (n : Node) → Valid n → Valid (after_calls cs n)
    after-valid [] n v = v
    after-valid (c ∷ cs) n v = after-valid cs (perform c n).node (L.stays-valid c n v)

    range : (c : NodeCall) (n : Node) → HoldsReserved n → verdict_number (perform c n).verdict ≡ 13
    range c n h = go (valid n) refl
      where
        go : (b : Bool) → valid n ≡ b → verdict_number (perform c n).verdict ≡ 13
        go true e = absurd (not_valid n h e)
        go false e = S.invalid c n e

    pub node-addresses : NodeAddresses
    node-addresses = record {
      none-held = λ cs n v h. not_valid (after_calls cs n) h (after-valid cs n v);
      none_made =
          λ cs version role network h.
          not_valid (after_calls cs (made version role network).node) h
          (after-valid cs (made version role network).node (L.made-valid version role network));
      range = range;
    }
