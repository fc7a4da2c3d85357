-- What the table says of a record: each kind's reader is tested by its kind's number, and answers the numbers that stand behind it.
use Prim.Native.Nat.{ℕ, ◌+◌, ◌-◌}
use mathlib.Core.Path.{◌≡◌, refl, sym, subst}
use mathlib.Core.Bool.{Bool, true, false, cond}
use mathlib.Core.List.{List, [], ◌∷◌}
use native.Mathlib.Omega.{arith}
use lib.Dec.{leb, eqb}
use lib.ListN.{length, drop, get_or}
use borrow.Author.Tests.{eqb-true}
use Rattle.trace_record.specs.Layout.{number, blank, body_size, is_network_length, network_used, new_node, start}
use Rattle.trace_record.specs.Layout.{delivery, delivery_of, verified, poll, fields, entry}
use Rattle.trace_record.specs.Layout.{kind_number, RecordSays, says_record, EntriesSay}
use Rattle.trace_record.specs.declared.entries.Entry.{Entry}
use Rattle.trace_record.specs.declared.entries.Entry.TheVariants.{Bad, New, Verified}

-- what holds of both sides of a test holds of it
pub either : {A : Type 0} (P : A → Type 0) (b : Bool) (x y : A) → (b ≡ true → P x) → (b ≡ false → P y) → P (cond b x y)
either P true x y f g = f refl
either P false x y f g = g refl

one_byte : (b : List ℕ) → get_or b 0 0 ≡ number 1 b
unfolding number
one_byte [] = refl
one_byte (x ∷ b) = omega arith

pair : {w x y z : ℕ} → w ≡ y → x ≡ z → w ∷ x ∷ [] ≡ y ∷ z ∷ []
pair e f = cc

two_bytes : (b : List ℕ) → get_or b 0 0 ∷ get_or b 1 0 ∷ [] ≡ number 1 b ∷ number 1 (drop 1 b) ∷ []
two_bytes [] = pair (one_byte []) (one_byte [])
two_bytes (x ∷ b) = pair (one_byte (x ∷ b)) (one_byte b)

module _ (b : List ℕ) where
  abbrev Says : ℕ → Entry → Type 0
  Says kind e = (kind_number e ≡ 0 → ⊥) → RecordSays kind b e

  bad-says : (kind : ℕ) → Says kind Bad
  bad-says kind n = absurd (n refl)

  new-says : Says 1 (new_node b)
  unfolding new_node
  new-says =
      let used = network_used (get_or b 1 0) in
      let rest = cond (blank (16 - used) (drop (2 + used) b)) (New (get_or b 0 0) (get_or b 1 0)) Bad in
      either (Says 1) (leb (get_or b 0 0) 1) (cond (is_network_length (get_or b 1 0)) rest Bad) Bad
      (λ _. either (Says 1) (is_network_length (get_or b 1 0)) rest Bad
      (λ _. either (Says 1) (blank (16 - used) (drop (2 + used) b)) (New (get_or b 0 0) (get_or b 1 0)) Bad
      (λ _ n. record { kind-is = refl; numbers = two_bytes b }) (λ _. bad-says 1))
      (λ _. bad-says 1))
      (λ _. bad-says 1)

  abbrev kind_of : Bool → ℕ
  kind_of true = 4
  kind_of false = 3

  delivered-says : (update : Bool) → Says (kind_of update) (delivery_of update (number 8 b) (number 2 (drop 8 b)))
  delivered-says true n = record { kind-is = refl; numbers = refl }
  delivered-says false n = record { kind-is = refl; numbers = refl }

  delivery-says : (update : Bool) → Says (kind_of update) (delivery (delivery_of update) b)
  unfolding delivery
  delivery-says update =
      let len = number 2 (drop 8 b) in
      let unused = blank (256 - len) (drop (10 + len) b) in
      let it = delivery_of update (number 8 b) len in
      either (Says (kind_of update)) (leb len 256) (cond unused it Bad) Bad
      (λ _. either (Says (kind_of update)) unused it Bad (λ _. delivered-says update) (λ _. bad-says (kind_of update)))
      (λ _. bad-says (kind_of update))

  verified-says : Says 5 (verified b)
  unfolding verified
  verified-says =
      either (Says 5) (leb (get_or b 0 0) 1) (Verified (get_or b 0 0) (get_or b 1 0)) Bad
      (λ _ n. record { kind-is = refl; numbers = two_bytes b }) (λ _. bad-says 5)

  of-kind : (k n : ℕ) (e : Entry) → Says n e → eqb k n ≡ true → Says k e
  of-kind k n e h t = subst (λ (x : ℕ). Says x e) (sym (eqb-true k n t)) h

  fields-say : (k : ℕ) → Says k (fields k b)
  unfolding fields
  fields-say k =
      let from6 = cond (eqb k 6) (poll b) Bad in
      let from5 = cond (eqb k 5) (verified b) from6 in
      let from4 = cond (eqb k 4) (delivery (delivery_of true) b) from5 in
      let from3 = cond (eqb k 3) (delivery (delivery_of false) b) from4 in
      let from2 = cond (eqb k 2) (start b) from3 in
      either (Says k) (eqb k 1) (new_node b) from2 (of-kind k 1 (new_node b) new-says) (λ _.
      either (Says k) (eqb k 2) (start b) from3 (of-kind k 2 (start b) (λ n. record { kind-is = refl; numbers = refl })) (λ _.
      either (Says k) (eqb k 3) (delivery (delivery_of false) b) from4 (of-kind k 3 _ (delivery-says false)) (λ _.
      either (Says k) (eqb k 4) (delivery (delivery_of true) b) from5 (of-kind k 4 _ (delivery-says true)) (λ _.
      either (Says k) (eqb k 5) (verified b) from6 (of-kind k 5 (verified b) verified-says) (λ _.
      either (Says k) (eqb k 6) (poll b) Bad (of-kind k 6 (poll b) (λ n. record { kind-is = refl; numbers = refl })) (λ _. bad-says k))))))

pub entries-say : EntriesSay
unfolding entry
entries-say [] = refl
entries-say (k ∷ b) =
    either (λ (e : Entry). says_record (k ∷ b) e) (leb (body_size k) (length b)) (fields k b) Bad (λ _. fields-say b k) (λ _. bad-says b k)
