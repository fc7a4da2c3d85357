-- The line with updates that are accepted is computed, and the claim beside demand 3 is applied to it.
use Prim.Native.Nat.{ℕ}
use native.Mathlib.Omega.{arith}
use mathlib.Core.Path.{◌≡◌, refl}
use mathlib.Core.List.Memᴰ
use mathlib.Core.List.Memᴰ.{head as at}
use mathlib.Core.List.Memᴰ.{tail as past}
use mathlib.Core.List.{List, [], ◌∷◌, Memᴰ}
use mathlib.Core.List.{◌++◌}
use mathlib.Core.Logic.{inr, ⊎_elim}
use lib.Dec.{lit<}
use Rattle.refusal.specs.RefusalLemmas.{accepted-not}
use Rattle.cojp.specs.declared.disposition.Disposition.TheVariants.{Absent, Taken, Discarded}
use Rattle.node_attempt.specs.declared.delivery.Delivery.TheVariants.{Update}
use Rattle.node_laws.specs.Calls.{delivering}
use Rattle.node_laws.specs.Laws.{Takes}
use Rattle.network.specs.Network.{node_at}
use Rattle.network.specs.Events.{Event, calling, run, Admissible, Throughout}
use Rattle.network.specs.AmidUpdates.{EventAmidUpdates, AdmissibleAmidUpdates, RekeyAmidUpdates}
use Rattle.network.specs.AmidUpdatesExample.{clashing, first_amid, taken_amid, round_amid, second_amid, AmidUpdatesExample}
use Rattle.network.specs.Rounds.{Linked, AllLinked, Rounds, none, more}
use Rattle.network.specs.Demand3.{NoneUsedUp}
use Rattle.network.specs.PartialRekey.{RekeyAmong, all}
use Rattle.network.specs.RekeyExample
use Rattle.network.specs.RekeyExample.{new_keys, line, line_links, worst}
use Rattle.network.proofs.Line.{computing, supposed, hops, linked-worst, round-worst, unspent_at, unspent_through, unspent-through}
use Rattle.network.proofs.Rekey.{where-all-had}

discarded-not : Discarded ≡ Taken → ⊥
discarded-not e = absurd (let z : ◌≡◌ {A = ℕ} 0 1 = cc in omega arith)

absent-not : Absent ≡ Taken → ⊥
absent-not e = absurd (let z : ◌≡◌ {A = ℕ} 0 1 = cc in omega arith)

-- ---- what happens, computed
before : AdmissibleAmidUpdates line first_amid
unfolding computing EventAmidUpdates AdmissibleAmidUpdates
before = (
  (lit< tt, lit< tt, λ e. omega arith),
  ((lit< tt, inr discarded-not), ((lit< tt, inr absent-not), ((lit< tt, lit< tt, λ e. omega arith), tt))),
)

not-demand3 : Admissible line first_amid → ⊥
unfolding computing
not-demand3 h = let refuses = h.1.0.1 in accepted-not refuses.why refuses.refused

takes : Takes Update (node_at (run line first_amid) 0) 20000 RekeyExample.payload new_keys
unfolding computing
takes = record { accepted = refl; taken = refl; set = refl }

after : AdmissibleAmidUpdates taken_amid second_amid
unfolding computing EventAmidUpdates AdmissibleAmidUpdates
after = (
  (lit< tt, lit< tt, λ e. omega arith),
  (
    (lit< tt, lit< tt, λ e. omega arith),
    (
      (lit< tt, lit< tt, λ e. omega arith),
      (
        (lit< tt, lit< tt, λ e. omega arith),
        (
          (lit< tt, inr discarded-not),
          (
            (lit< tt, lit< tt, λ e. omega arith),
            (
              (lit< tt, lit< tt, λ e. omega arith),
              ((lit< tt, lit< tt, λ e. omega arith), ((lit< tt, lit< tt, λ e. omega arith), tt)),
            ),
          ),
        ),
      ),
    ),
  ),
)

unspent-before : Throughout (NoneUsedUp new_keys 1) line first_amid
unfolding computing unspent_at unspent_through
unspent-before = unspent-through new_keys 1 line first_amid refl

unspent-after : Throughout (NoneUsedUp new_keys 1) taken_amid second_amid
unfolding computing unspent_at unspent_through
unspent-after = unspent-through new_keys 1 taken_amid second_amid refl

-- ---- links and rounds
linked : AllLinked line_links 1 second_amid
linked e m = ⊎_elim first again (Memᴰ.append_cases round_amid m)
  where
    update : Memᴰ e (calling 2 (delivering Update 21000 clashing) ∷ []) → Linked line_links 1 e
    update (at q) = rw q tt
    update (past m) = elim m [ ]

    first : Memᴰ e round_amid → Linked line_links 1 e
    first n = ⊎_elim (linked-worst e) update (Memᴰ.append_cases worst n)

    again : Memᴰ e (worst ++ []) → Linked line_links 1 e
    again n = ⊎_elim (linked-worst e) (λ o. absurd (Memᴰ.not-nil o)) (Memᴰ.append_cases worst n)

-- a round with an event behind it is a round
there : (es fs : List Event) {x : Event} → Memᴰ x es → Memᴰ x (es ++ fs)
there (e ∷ es) fs (at q) = at q
there (e ∷ es) fs (past m) = past (there es fs m)
there [] fs m = elim m [ ]

rounds : Rounds line_links 1 2 second_amid
rounds = more round_amid (λ i j n. there worst _ (round-worst i j n)) (more worst round-worst none)

pub amid-witness : RekeyAmidUpdates → AmidUpdatesExample
unfolding RekeyAmong computing
amid-witness claim =
    let said = claim.unspent all line 0 new_keys 1 (where-all-had.supposed supposed) first_amid before in
    record {
      clash-accepted = refl;
      clash-discarded = refl;
      still-pending = refl;
      before = before;
      not-demand3 = not-demand3;
      unspent-before = unspent-before;
      takes = takes;
      after = after;
      unspent-after = unspent-after;
      linked = linked;
      rounds = rounds;
      clash-accepted-after = refl;
      two-rounds-active = refl;
      none-sends = said.0;
      rekeyed =
          (said.1 unspent-before Update 20000 RekeyExample.payload takes line_links 2 second_amid after linked rounds unspent-after).reached 2
          (lit< tt) (where-all-had.hops line_links hops);
    }
