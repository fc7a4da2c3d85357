-- The rekey of a building with sleepers is computed, and the claim is applied to it.
use Prim.Native.Nat.{ℕ, zero, suc, ◌<◌}
use native.Mathlib.Omega.{arith}
use mathlib.Core.Path.{◌≡◌, refl, ap, subst}
use mathlib.Core.Bool.{true, false}
use mathlib.Core.List.Memᴰ
use mathlib.Core.List.Memᴰ.{head as at}
use mathlib.Core.List.Memᴰ.{tail as past}
use mathlib.Core.List.{Memᴰ}
use mathlib.Core.Logic.{◌⊎◌, inl, inr, ⊎_elim}
use lib.Dec.{lit<}
use Rattle.lemmas.specs.logic.Tests.{never}
use Rattle.link_key.specs.set.KeySet.{Apart}
use Rattle.node.specs.Node.{active_of, pending_of}
use Rattle.node.specs.Range.{Valid}
use Rattle.node_laws.specs.Laws.{Takes}
use Rattle.node_attempt.specs.declared.delivery.Delivery.TheVariants.{Update}
use Rattle.network.specs.Network.{node_at}
use Rattle.network.specs.Events.{turning, run, Admissible, Throughout}
use Rattle.network.specs.Rounds.{Neighbours, Towards, Hops, here, hop, AllLinked, Round, Rounds, none, more}
use Rattle.network.specs.Demand3.{NoneUsedUp}
use Rattle.network.specs.PartialRekey.{Lacks, SupposedSome, RekeyAmong, PartialRekey}
use Rattle.network.specs.RekeyExample
use Rattle.network.specs.RekeyExample.{new_keys}
use Rattle.network.specs.PartialRekeyExample.{third_keys, had_pending, building, building_links}
use Rattle.network.specs.PartialRekeyExample.{beforehand, taken_in, around, around_twice}
use Rattle.network.specs.PartialRekeyExample.{PartialRekeyExample}
use Rattle.network.proofs.Receiving.{none_apart}
use Rattle.network.proofs.Rekey.{where-all-had}
use Rattle.network.proofs.Line.{computing, ones-apart, ones-differ, apart, differ, of-link, turns-come}
use Rattle.network.proofs.Line.{unspent_at, unspent_through, unspent-through}

seven : (P : ℕ → Type 0) → P 0 → P 1 → P 2 → P 3 → P 4 → P 5 → P 6 → (i : ℕ) → i < 7 → P i
seven P a b c d e f g zero l = a
seven P a b c d e f g (suc zero) l = b
seven P a b c d e f g (suc (suc zero)) l = c
seven P a b c d e f g (suc (suc (suc zero))) l = d
seven P a b c d e f g (suc (suc (suc (suc zero)))) l = e
seven P a b c d e f g (suc (suc (suc (suc (suc zero))))) l = f
seven P a b c d e f g (suc (suc (suc (suc (suc (suc zero)))))) l = g
seven P a b c d e f g (suc (suc (suc (suc (suc (suc (suc i))))))) l = absurd (omega arith)

third-apart : Apart third_keys new_keys
third-apart = ones-apart _ _ (λ e. omega arith)

third-differs : third_keys ≡ new_keys → ⊥
third-differs = ones-differ _ _ (λ e. omega arith)

-- ---- the nodes
supposed : SupposedSome had_pending building 0 new_keys 1
unfolding computing
supposed =
    record {
      valid = seven (λ i. Valid (node_at building i)) refl refl refl refl refl refl refl;
      inside = lit< tt;
      is-border = refl;
      ordinary =
          seven (λ i. (i ≡ 0 → ⊥) → (node_at building i).role ≡ 0) (λ f. absurd (f refl)) (λ _. refl) (λ _. refl) (λ _. refl) (λ _. refl)
          (λ _. refl) (λ _. refl);
      covering = record { key = _; member = at refl; covering = refl };
      pending =
          seven (λ i. (node_at building i).role ≡ 0 → had_pending i ≡ true → pending_of (node_at building i) ≡ new_keys)
          (λ e. absurd (omega arith))
          (λ _ _. refl) (λ _ e. never false e refl) (λ _ _. refl) (λ _ e. never false e refl) (λ _ e. never false e refl) (λ _ _. refl);
      lacking =
          seven (λ i. (node_at building i).role ≡ 0 → had_pending i ≡ false → Lacks new_keys (node_at building i)) (λ e. absurd (omega arith))
          (λ _ e. never true refl e) (λ _ _. record { active = apart; pending = none_apart new_keys }) (λ _ e. never true refl e)
          (λ _ _. record { active = apart; pending = third-apart }) (λ _ _. record { active = third-apart; pending = none_apart new_keys })
          (λ _ e. never true refl e);
      active-at-none = seven (λ i. active_of (node_at building i) ≡ new_keys → ⊥) differ differ differ differ differ third-differs differ;
      former-apart = apart;
    }

-- ---- links, rounds and hops
linked : AllLinked building_links 1 around
linked e (at q) = rw q (inr (past (past (past (past (at refl))))), refl)
linked e (past (at q)) = rw q (inl (past (past (past (past (at refl))))), refl)
linked e (past (past (at q))) = rw q (inr (past (past (at refl))), refl)
linked e (past (past (past (at q)))) = rw q (inl (past (past (at refl))), refl)
linked e (past (past (past (past (at q))))) = rw q (inr (past (at refl)), refl)
linked e (past (past (past (past (past (at q)))))) = rw q (inl (past (at refl)), refl)
linked e (past (past (past (past (past (past (at q))))))) = rw q (inr (at refl), refl)
linked e (past (past (past (past (past (past (past (at q)))))))) = rw q (inl (at refl), refl)
linked e (past (past (past (past (past (past (past (past (at q))))))))) = rw q (inr (past (past (past (at refl)))), refl)
linked e (past (past (past (past (past (past (past (past (past (at q)))))))))) = rw q (inl (past (past (past (at refl)))), refl)
linked e (past (past (past (past (past (past (past (past (past (past m)))))))))) = elim m [ ]

abbrev There : ℕ → ℕ → Type 0
There i j = Memᴰ (turning i j 1) around

abbrev Back : ℕ → ℕ → Type 0
Back i j = There j i

round : Round building_links 1 around
round i j (inl (at q)) = of-link There i j 0 1 q (past (past (past (past (past (past (past (at refl))))))))
round i j (inl (past (at q))) = of-link There i j 0 2 q (past (past (past (past (past (at refl))))))
round i j (inl (past (past (at q)))) = of-link There i j 2 3 q (past (past (past (at refl))))
round i j (inl (past (past (past (at q))))) =
    of-link There i j 4 5 q (past (past (past (past (past (past (past (past (past (at refl))))))))))
round i j (inl (past (past (past (past (at q)))))) = of-link There i j 1 6 q (past (at refl))
round i j (inr (at q)) = of-link Back j i 0 1 q (past (past (past (past (past (past (at refl)))))))
round i j (inr (past (at q))) = of-link Back j i 0 2 q (past (past (past (past (at refl)))))
round i j (inr (past (past (at q)))) = of-link Back j i 2 3 q (past (past (at refl)))
round i j (inr (past (past (past (at q))))) = of-link Back j i 4 5 q (past (past (past (past (past (past (past (past (at refl)))))))))
round i j (inr (past (past (past (past (at q)))))) = of-link Back j i 1 6 q (at refl)
round i j (inl (past (past (past (past (past m)))))) = elim m [ ]
round i j (inr (past (past (past (past (past m)))))) = elim m [ ]

linked-twice : AllLinked building_links 1 around_twice
linked-twice e m = ⊎_elim (linked e) (linked e) (Memᴰ.append_cases around m)

rounds : Rounds building_links 1 2 around_twice
rounds = more around round (more around round none)

near : Hops (Towards building_links had_pending) 2 0 1
near = hop (inl (at refl), refl) here

far : Hops (Towards building_links had_pending) 2 0 6
far = hop (inl (at refl), refl) (hop (inl (past (past (past (past (at refl))))), refl) here)

plain : Hops (Neighbours building_links) 2 0 3
plain = hop (inl (past (at refl))) (hop (inl (past (past (at refl)))) here)

-- only node 2 is a neighbour of node 3, and it is asleep
from-two : (i j : ℕ) → j ≡ 3 → Neighbours building_links i j → i ≡ 2
from-two i j e (inl (at q)) = let b : j ≡ 1 = ap (λ (l : ℕ × ℕ). l.1) q in absurd (omega (arith, b, e))
from-two i j e (inl (past (at q))) = let b : j ≡ 2 = ap (λ (l : ℕ × ℕ). l.1) q in absurd (omega (arith, b, e))
from-two i j e (inl (past (past (at q)))) = ap (λ (l : ℕ × ℕ). l.0) q
from-two i j e (inl (past (past (past (at q))))) = let b : j ≡ 5 = ap (λ (l : ℕ × ℕ). l.1) q in absurd (omega (arith, b, e))
from-two i j e (inl (past (past (past (past (at q)))))) = let b : j ≡ 6 = ap (λ (l : ℕ × ℕ). l.1) q in absurd (omega (arith, b, e))
from-two i j e (inr (at q)) = let b : j ≡ 0 = ap (λ (l : ℕ × ℕ). l.0) q in absurd (omega (arith, b, e))
from-two i j e (inr (past (at q))) = let b : j ≡ 0 = ap (λ (l : ℕ × ℕ). l.0) q in absurd (omega (arith, b, e))
from-two i j e (inr (past (past (at q)))) = let b : j ≡ 2 = ap (λ (l : ℕ × ℕ). l.0) q in absurd (omega (arith, b, e))
from-two i j e (inr (past (past (past (at q))))) = let b : j ≡ 4 = ap (λ (l : ℕ × ℕ). l.0) q in absurd (omega (arith, b, e))
from-two i j e (inr (past (past (past (past (at q)))))) = let b : j ≡ 1 = ap (λ (l : ℕ × ℕ). l.0) q in absurd (omega (arith, b, e))
from-two i j e (inl (past (past (past (past (past m)))))) = elim m [ ]
from-two i j e (inr (past (past (past (past (past m)))))) = elim m [ ]

asleep : (j : ℕ) → had_pending j ≡ true → j ≡ 2 → ⊥
asleep j t p = let z : had_pending 2 ≡ true = subst (λ (k : ℕ). had_pending k ≡ true) p t in never false z refl

only-behind : {h i k : ℕ} → k ≡ 3 → Hops (Towards building_links had_pending) h i k → (i ≡ 3) ⊎ (i ≡ 2)
only-behind e here = inl e
only-behind e (hop {i = i} {j = j} n rest) =
    ⊎_elim (λ p. inr (from-two i j p n.0)) (λ p. absurd (asleep j n.1 p)) (only-behind e rest)

behind : (h : ℕ) → Hops (Towards building_links had_pending) h 0 3 → ⊥
behind h w = ⊎_elim (λ p. absurd (omega (arith, p))) (λ p. absurd (omega (arith, p))) (only-behind refl w)

-- ---- what happens, computed
before : Admissible building beforehand
before = turns-come 7 building beforehand refl refl

takes : Takes Update (node_at (run building beforehand) 0) 20000 RekeyExample.payload new_keys
unfolding computing
takes = record { accepted = refl; taken = refl; set = refl }

after : Admissible taken_in around_twice
unfolding computing
after = turns-come 7 taken_in around_twice refl refl

unspent-before : Throughout (NoneUsedUp new_keys 1) building beforehand
unfolding computing unspent_at unspent_through
unspent-before = unspent-through new_keys 1 building beforehand refl

unspent-after : Throughout (NoneUsedUp new_keys 1) taken_in around_twice
unfolding computing unspent_at unspent_through
unspent-after = unspent-through new_keys 1 taken_in around_twice refl

pub building-witness : PartialRekey → PartialRekeyExample
unfolding RekeyAmong computing
building-witness claim =
    let said = claim had_pending building 0 new_keys 1 supposed beforehand before in
    let then = said.1 unspent-before Update 20000 RekeyExample.payload takes in
    let followed = then building_links 2 around_twice after linked-twice rounds unspent-after in
    record {
      supposed = supposed;
      before = before;
      unspent-before = unspent-before;
      takes = takes;
      after = after;
      unspent-after = unspent-after;
      linked = linked-twice;
      rounds = rounds;
      near = near;
      far = far;
      one-round = refl;
      plain = plain;
      behind = behind;
      waits = refl;
      switched = refl;
      none-sends = said.0;
      followed = followed;
      rekeyed = followed.reached 1 (lit< tt) near;
      rekeyed-far = followed.reached 6 (lit< tt) far;
      lacked = followed.lacked 2 (lit< tt) refl refl refl;
      lacked-too = followed.lacked 5 (lit< tt) refl refl refl;
      counter-before = refl;
      counter-after = refl;
      where-all-had = where-all-had;
    }
