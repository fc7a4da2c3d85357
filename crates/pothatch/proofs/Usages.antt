-- What the usage list answers, and what is told of it.
use Rattle.std.specs.Prelude.{Result, Ok, Err}
use Prim.Native.Nat.{ℕ, ◌/◌}
use mathlib.Core.Path.{◌≡◌, refl}
use Rattle.refusal.specs.Refusal.{number_of}
use Rattle.refusal.specs.declared.Refusal.{Refusal}
use Rattle.link_key.specs.declared.usage.Usage.{Usage}
use Rattle.link_key.specs.usage.Usage.{entry_at, entry_says}
use Rattle.pothatch.specs.Usage.{encryption, encryption_in, mic_length, UsageSpec}
use Rattle.pothatch.specs.Wide.{code_of}

module _ (usage c : ℕ) (x : Result Usage Refusal) (d : c ≡ code_of usage) (e : x ≡ entry_at c) where
  pub usage-refused : (k : Refusal) {r : ℕ} → x ≡ Err k → r ≡ number_of k → UsageSpec usage r 0 0
  usage-refused k f g =
      record { number = rw (← d, ← e, f) g; encrypted = rw (← d, ← e, f) refl; mic-length = rw (← d, ← e, f) refl }

  pub usage-listed : (u : Usage) {n m : ℕ} → x ≡ Ok u → n ≡ encryption u.family → m ≡ u.mic / 8 → UsageSpec usage 0 n m
  usage-listed u f g h =
      record { number = rw (← d, ← e, f) refl; encrypted = rw (← d, ← e, f) g; mic-length = rw (← d, ← e, f) h }

-- refused, both numbers are 0
pub no-usage : (usage r n m : ℕ) → UsageSpec usage r n m → (r ≡ 0 → ⊥) → (n ≡ 0) × (m ≡ 0)
no-usage usage r n m d h = by-entry (entry_at (code_of usage)) d.number d.encrypted d.mic-length
  where
    by-entry : (x : Result Usage Refusal) → r ≡ (entry_says x).0 → n ≡ encryption_in x → m ≡ mic_length x → (n ≡ 0) × (m ≡ 0)
    by-entry (Err k) a b c = (b, c)
    by-entry (Ok u) a b c = absurd (h a)
