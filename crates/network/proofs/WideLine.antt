-- The wide rekey is computed, and demand 3 is applied to it.
use Prim.Native.Nat.{ℕ}
use native.Mathlib.Omega.{arith}
use mathlib.Core.Path.{◌≡◌, refl, ap}
use mathlib.Core.List.Memᴰ
use mathlib.Core.List.Memᴰ.{head as at}
use mathlib.Core.List.Memᴰ.{tail as past}
use mathlib.Core.List.{List, [], Memᴰ}
use mathlib.Core.List.{◌++◌}
use mathlib.Core.Logic.{inl, inr, ⊎_elim}
use lib.Dec.{lit<}
use lib.ListN.{length}
use Rattle.refusal.specs.declared.Refusal.TheVariants as refusal
use Rattle.link_key.specs.set.KeySet.{Apart}
use Rattle.link_key.specs.declared.Key.{Key}
use Rattle.node_attempt.specs.declared.delivery.Delivery.TheVariants.{JoinAnswer}
use Rattle.node.specs.Node.{active_of, pending_of}
use Rattle.node.specs.Range.{Valid}
use Rattle.node_laws.specs.Laws.{Takes}
use Rattle.network.specs.Network.{node_at}
use Rattle.network.specs.Events.{Event, turning, run, Admissible, Throughout}
use Rattle.network.specs.Rounds.{Linked, AllLinked, Round, Rounds, none, more}
use Rattle.network.specs.Demand3.{Supposed, NoneUsedUp, Demand3}
use Rattle.network.specs.RekeyExample.{line_links}
use Rattle.network.specs.WideRekeyExample.{old_pair, data_key, new_three, wide, three_keys, first_wide, taken_wide, round_one, round_two}
use Rattle.network.specs.WideRekeyExample.{second_wide, WideRekeyExample}
use Rattle.network.proofs.Line.{computing, three, of-link, hops, unspent_at, unspent_through, unspent-through}

-- ---- the nodes
pair-differ : old_pair ≡ new_three → ⊥
pair-differ e = let sizes : ◌≡◌ {A = ℕ} 2 3 = ap length e in omega arith

-- two keys with two identifiers
keys-apart : (k l x y : Key) → x ≡ k → y ≡ l → (k.identifier ≡ l.identifier → ⊥) → x.identifier ≡ y.identifier → ⊥
keys-apart k l x y p q d e = d (rw (← p, ← q) e)

sets-apart : Apart old_pair new_three
sets-apart x y (at p) (at q) = keys-apart _ _ x y p q (λ e. omega arith)
sets-apart x y (at p) (past (at q)) = keys-apart _ _ x y p q (λ e. omega arith)
sets-apart x y (at p) (past (past (at q))) = keys-apart _ _ x y p q (λ e. omega arith)
sets-apart x y (past (at p)) (at q) = keys-apart _ _ x y p q (λ e. omega arith)
sets-apart x y (past (at p)) (past (at q)) = keys-apart _ _ x y p q (λ e. omega arith)
sets-apart x y (past (at p)) (past (past (at q))) = keys-apart _ _ x y p q (λ e. omega arith)
sets-apart x y (at p) (past (past (past m))) = elim m [ ]
sets-apart x y (past (at p)) (past (past (past m))) = elim m [ ]
sets-apart x y (past (past m)) _ = elim m [ ]

supposed : Supposed wide 0 new_three 1
unfolding computing
supposed =
    record {
      valid = three (λ i. Valid (node_at wide i)) refl refl refl;
      inside = lit< tt;
      is-border = refl;
      ordinary = three (λ i. (i ≡ 0 → ⊥) → (node_at wide i).role ≡ 0) (λ f. absurd (f refl)) (λ _. refl) (λ _. refl);
      covering = record { key = data_key; member = past (at refl); covering = refl };
      pending =
          three (λ i. (node_at wide i).role ≡ 0 → pending_of (node_at wide i) ≡ new_three) (λ e. absurd (omega arith)) (λ _. refl) (λ _. refl);
      active-at-none = three (λ i. active_of (node_at wide i) ≡ new_three → ⊥) pair-differ pair-differ pair-differ;
      former-apart = sets-apart;
    }

-- ---- links and rounds; both rounds have their turns at the same places
linked-one : AllLinked line_links 1 round_one
linked-one e (at q) = rw q (inr (past (at refl)), refl)
linked-one e (past (at q)) = rw q tt
linked-one e (past (past (at q))) = rw q (inl (past (at refl)), refl)
linked-one e (past (past (past (at q)))) = rw q tt
linked-one e (past (past (past (past (at q))))) = rw q (inr (at refl), refl)
linked-one e (past (past (past (past (past (at q)))))) = rw q tt
linked-one e (past (past (past (past (past (past (at q))))))) = rw q (inl (at refl), refl)
linked-one e (past (past (past (past (past (past (past m))))))) = elim m [ ]

linked-two : AllLinked line_links 1 round_two
linked-two e (at q) = rw q (inr (past (at refl)), refl)
linked-two e (past (at q)) = rw q tt
linked-two e (past (past (at q))) = rw q (inl (past (at refl)), refl)
linked-two e (past (past (past (at q)))) = rw q tt
linked-two e (past (past (past (past (at q))))) = rw q (inr (at refl), refl)
linked-two e (past (past (past (past (past (at q)))))) = rw q tt
linked-two e (past (past (past (past (past (past (at q))))))) = rw q (inl (at refl), refl)
linked-two e (past (past (past (past (past (past (past m))))))) = elim m [ ]

linked : AllLinked line_links 1 second_wide
linked e m = ⊎_elim (linked-one e) again (Memᴰ.append_cases round_one m)
  where
    again : Memᴰ e (round_two ++ []) → Linked line_links 1 e
    again n = ⊎_elim (linked-two e) (λ o. absurd (Memᴰ.not-nil o)) (Memᴰ.append_cases round_two n)

abbrev There : List Event → ℕ → ℕ → Type 0
There es i j = Memᴰ (turning i j 1) es

abbrev Back : List Event → ℕ → ℕ → Type 0
Back es i j = There es j i

one : Round line_links 1 round_one
one i j (inl (at q)) = of-link (There round_one) i j 0 1 q (past (past (past (past (past (past (at refl)))))))
one i j (inl (past (at q))) = of-link (There round_one) i j 1 2 q (past (past (at refl)))
one i j (inr (at q)) = of-link (Back round_one) j i 0 1 q (past (past (past (past (at refl)))))
one i j (inr (past (at q))) = of-link (Back round_one) j i 1 2 q (at refl)
one i j (inl (past (past m))) = elim m [ ]
one i j (inr (past (past m))) = elim m [ ]

two : Round line_links 1 round_two
two i j (inl (at q)) = of-link (There round_two) i j 0 1 q (past (past (past (past (past (past (at refl)))))))
two i j (inl (past (at q))) = of-link (There round_two) i j 1 2 q (past (past (at refl)))
two i j (inr (at q)) = of-link (Back round_two) j i 0 1 q (past (past (past (past (at refl)))))
two i j (inr (past (at q))) = of-link (Back round_two) j i 1 2 q (at refl)
two i j (inl (past (past m))) = elim m [ ]
two i j (inr (past (past m))) = elim m [ ]

rounds : Rounds line_links 1 2 second_wide
rounds = more round_one one (more round_two two none)

-- ---- what happens, computed
before : Admissible wide first_wide
unfolding computing
before = (
  (lit< tt, lit< tt, λ e. omega arith),
  (
    (lit< tt, lit< tt, λ e. omega arith),
    ((lit< tt, record { why = refusal.Phase; refused = refl }), ((lit< tt, tt), ((lit< tt, tt), tt))),
  ),
)

takes : Takes JoinAnswer (node_at (run wide first_wide) 0) 20000 three_keys new_three
unfolding computing
takes = record { accepted = refl; taken = refl; set = refl }

after : Admissible taken_wide second_wide
unfolding computing
after = (
  (lit< tt, lit< tt, λ e. omega arith),
  (
    (lit< tt, tt),
    (
      (lit< tt, lit< tt, λ e. omega arith),
      (
        (lit< tt, tt),
        (
          (lit< tt, lit< tt, λ e. omega arith),
          (
            (lit< tt, record { why = refusal.Clock; refused = refl }),
            (
              (lit< tt, lit< tt, λ e. omega arith),
              (
                (lit< tt, lit< tt, λ e. omega arith),
                (
                  (lit< tt, tt),
                  (
                    (lit< tt, lit< tt, λ e. omega arith),
                    (
                      (lit< tt, tt),
                      (
                        (lit< tt, lit< tt, λ e. omega arith),
                        ((lit< tt, record { why = refusal.Keys; refused = refl }), ((lit< tt, lit< tt, λ e. omega arith), tt)),
                      ),
                    ),
                  ),
                ),
              ),
            ),
          ),
        ),
      ),
    ),
  ),
)

unspent-before : Throughout (NoneUsedUp new_three 1) wide first_wide
unfolding computing unspent_at unspent_through
unspent-before = unspent-through new_three 1 wide first_wide refl

unspent-after : Throughout (NoneUsedUp new_three 1) taken_wide second_wide
unfolding computing unspent_at unspent_through
unspent-after = unspent-through new_three 1 taken_wide second_wide refl

pub wide-witness : Demand3 → WideRekeyExample
unfolding Demand3 computing
wide-witness claim =
    let said = claim wide 0 new_three 1 supposed first_wide before in
    record {
      supposed = supposed;
      before = before;
      unspent-before = unspent-before;
      takes = takes;
      after = after;
      unspent-after = unspent-after;
      linked = linked;
      rounds = rounds;
      hops = hops;
      border-joined = refl;
      border-active = refl;
      one-round-active = refl;
      one-round-pending = refl;
      two-rounds-active = refl;
      two-rounds-pending = refl;
      sends-under = refl;
      far-waits = refl;
      sent-again = refl;
      none-sends = said.0;
      rekeyed =
          said.1 unspent-before JoinAnswer 20000 three_keys takes line_links 2 second_wide after linked rounds unspent-after 2 (lit< tt) hops;
    }
