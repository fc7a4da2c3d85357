-- What sealing and opening have done at each of their returns: the tests on the way say which clause of the plan it is.
-- Assumes nothing.
use Rattle.std.specs.Prelude.{Result, Ok, Err}
use mathlib.Core.Path.{◌≡◌, refl, sym, ◌∙◌, ap, subst⁻¹}
use mathlib.Core.Bool.{Bool, true, false}
use mathlib.Core.List.{List, ◌++◌, append_assoc}
use Prim.Native.Nat.{ℕ, ◌+◌, ◌-◌, ◌<◌, ◌≤◌}
use native.Mathlib.Omega.{arith}
use borrow.Author.Tests.{lt-ltb, le-ltb}
use borrow.Rule.Slice.PartMut.{put_mid}
use lib.ListN.{length, take, drop, length-append, length-drop}
use lib.Seq.{take_at, drop_at, take_all, drop-drop, length-take-le}
use Rattle.lemmas.specs.lists.Same.{same}
use Rattle.lemmas.specs.lists.TableLemmas.{length-table}
use Rattle.refusal.specs.declared.Refusal.{Refusal}
use Rattle.refusal.specs.declared.Refusal.TheVariants.{Room, Range, Seal}
use Rattle.aes.specs.Cipher.{round_keys}
use Rattle.aes_ccm.specs.Ccm.{crypt, tag, sealed, text_of, genuine}
use Rattle.aes_ccm.specs.Plan.{Plan, refuse, emit, Did, seal_plan, release_plan, unseal_plan}
use Rattle.aes_ccm.proofs.Streams.{length-crypt}

length-tag : (ks : List (List ℕ)) (nonce a m : List ℕ) → length (tag ks nonce a m) ≡ 8
unfolding tag
length-tag ks nonce a m = length-table 8 _

pub length-sealed : (key nonce a m : List ℕ) → length (sealed key nonce a m) ≡ length m + 8
unfolding sealed
length-sealed key nonce a m = rw (length-append, length-crypt, length-tag)

-- a plan that is followed
refused : (p : Plan) (k : Refusal) (d : List ℕ) → p ≡ refuse k → Did p d (Err k) d
refused p k d e = subst⁻¹ (λ (x : Plan). Did x d (Err k) d) e (record { says = refl; holds = refl })

written : (p : Plan) (bs d d' : List ℕ) (n : ℕ) → p ≡ emit bs → length bs ≡ n → d' ≡ bs ++ drop (length bs) d → Did p d (Ok n) d'
written p bs d d' n e l q = subst⁻¹ (λ (x : Plan). Did x d (Ok n) d') e (record { says = ap Ok (sym l); holds = q })

same-plan : {p q : Plan} (d : List ℕ) (r : Result ℕ Refusal) (d' : List ℕ) → p ≡ q → Did q d r d' → Did p d r d'
same-plan d r d' e w = subst⁻¹ (λ (x : Plan). Did x d r d') e w

-- ---- sealing
module _ (key nonce a m d : List ℕ) where
  pub seal-data-long : 64 < length a → Did (seal_plan key nonce a m (length d)) d (Err Range) d
  unfolding seal_plan
  seal-data-long h = refused (seal_plan key nonce a m (length d)) Range d (rw (lt-ltb 64 (length a) h))

  pub seal-text-long : length a ≤ 64 → 256 < length m → Did (seal_plan key nonce a m (length d)) d (Err Range) d
  unfolding seal_plan
  seal-text-long h k = refused (seal_plan key nonce a m (length d)) Range d (rw (le-ltb 64 (length a) h, lt-ltb 256 (length m) k))

  pub seal-no-room : length a ≤ 64 → length m ≤ 256 → length d < length m + 8 → Did (seal_plan key nonce a m (length d)) d (Err Room) d
  unfolding seal_plan
  seal-no-room h k l =
      refused (seal_plan key nonce a m (length d)) Room d
      (rw (le-ltb 64 (length a) h, le-ltb 256 (length m) k, lt-ltb (length d) (length m + 8) l))

pub seal-plan : (key nonce a m : List ℕ) (room : ℕ) → length a ≤ 64 → length m ≤ 256 → length m + 8 ≤ room
    → seal_plan key nonce a m room ≡ emit (sealed key nonce a m)
unfolding seal_plan
seal-plan key nonce a m room h k l = rw (le-ltb 64 (length a) h, le-ltb 256 (length m) k, le-ltb room (length m + 8) l)

-- what is written at the front, and then after it, stands there one after the other
seam : (x u d : List ℕ) (n k : ℕ) → length x ≡ n → length u ≡ k → k ≤ length d - n
    → put_mid n (n + k - n) (x ++ drop n d) u ≡ (x ++ u) ++ drop (length (x ++ u)) d
seam x u d n k h l r =
    let rest : n + k - n ≡ k = omega arith in
    rw (rest, take_at x (drop n d) n h, drop_at x (drop n d) n h, drop-drop k n d, append_assoc x u, length-append x u, h, l)

pub seal-done : (key nonce a m d : List ℕ) (ks : List (List ℕ)) (e t u : List ℕ) → length a ≤ 64 → length m ≤ 256 → length m + 8 ≤ length d
    → ks ≡ round_keys 10 key → e ≡ crypt ks nonce m ++ drop (length m) d → t ≡ tag ks nonce a m → u ≡ t
    → Did (seal_plan key nonce a m (length d)) d (Ok (length m + 8)) (put_mid (length m) (length m + 8 - length m) e u)
unfolding sealed
seal-done key nonce a m d ks e t u ha hm hd eks ee et eu =
    written (seal_plan key nonce a m (length d)) (sealed key nonce a m) d _ (length m + 8) (seal-plan key nonce a m (length d) ha hm hd)
    (length-sealed key nonce a m)
    (rw (ee, eu, et, eks)
    (seam (crypt (round_keys 10 key) nonce m) (tag (round_keys 10 key) nonce a m) d (length m) 8 (length-crypt (round_keys 10 key) nonce m)
    (length-tag (round_keys 10 key) nonce a m) (omega arith)))

-- ---- the text leaves, or not: `left` is what was copied
pub release-done : (right : Bool) (m d left : List ℕ) → right ≡ true → left ≡ m
    → Did (release_plan right m) d (Ok (length m)) (left ++ drop (length m) d)
unfolding release_plan
release-done right m d left t e = written (release_plan right m) m d _ (length m) (rw t) refl (rw e)

pub release-refused : (right : Bool) (m d : List ℕ) → right ≡ false → Did (release_plan right m) d (Err Seal) d
unfolding release_plan
release-refused right m d f = refused (release_plan right m) Seal d (rw f)

-- ---- opening
module _ (key nonce a c d : List ℕ) where
  pub unseal-data-long : 64 < length a → Did (unseal_plan key nonce a c (length d)) d (Err Range) d
  unfolding unseal_plan
  unseal-data-long h = refused (unseal_plan key nonce a c (length d)) Range d (rw (lt-ltb 64 (length a) h))

  pub unseal-short : length a ≤ 64 → length c < 8 → Did (unseal_plan key nonce a c (length d)) d (Err Range) d
  unfolding unseal_plan
  unseal-short h k = refused (unseal_plan key nonce a c (length d)) Range d (rw (le-ltb 64 (length a) h, lt-ltb (length c) 8 k))

  pub unseal-long : length a ≤ 64 → 8 ≤ length c → 264 < length c → Did (unseal_plan key nonce a c (length d)) d (Err Range) d
  unfolding unseal_plan
  unseal-long h k l =
      refused (unseal_plan key nonce a c (length d)) Range d (rw (le-ltb 64 (length a) h, le-ltb (length c) 8 k, lt-ltb 264 (length c) l))

  module _ (ha : length a ≤ 64) (hc : 8 ≤ length c) (hl : length c ≤ 264) where
    pub unseal-no-room : length d < length c - 8 → Did (unseal_plan key nonce a c (length d)) d (Err Room) d
    unfolding unseal_plan
    unseal-no-room h =
        refused (unseal_plan key nonce a c (length d)) Room d
        (rw (le-ltb 64 (length a) ha, le-ltb (length c) 8 hc, le-ltb 264 (length c) hl, lt-ltb (length d) (length c - 8) h))

    -- f is the text as it was decrypted into room with z after it, u its tag, b whether the two tags are the same
    pub unseal-done : (ks : List (List ℕ)) (f u z : List ℕ) (b : Bool) (r : Result ℕ Refusal) (d' : List ℕ) → length c - 8 ≤ length d
        → ks ≡ round_keys 10 key
        → f ≡ crypt ks nonce (take (length c - 8) c) ++ z → u ≡ tag ks nonce a (take (length c - 8) f)
        → b ≡ same (take (length c - (length c - 8)) (drop (length c - 8) c)) u
        → Did (release_plan b (take (length c - 8) f)) d r d' → Did (unseal_plan key nonce a c (length d)) d r d'
    unfolding unseal_plan text_of genuine
    unseal-done ks f u z b r d' hd eks ef eu eb did =
        let short : length (take (length c - 8) c) ≡ length c - 8 = length-take-le (length c - 8) c (omega arith) in
        let text : take (length c - 8) f ≡ text_of key nonce c
        =
        rw (ef, eks)
        (take_at (crypt (round_keys 10 key) nonce (take (length c - 8) c)) z (length c - 8) (length-crypt _ nonce _ ∙ short)) in
        let whole : take (length c - (length c - 8)) (drop (length c - 8) c) ≡ drop (length c - 8) c
        = take_all (length c - (length c - 8)) (drop (length c - 8) c) (rw (length-drop (length c - 8) c) (omega arith)) in
        let tested : genuine key nonce a c ≡ b = sym (eb ∙ rw (whole, eu, text, eks)) in
        same-plan d r d'
        (rw (le-ltb 64 (length a) ha, le-ltb (length c) 8 hc, le-ltb 264 (length c) hl, le-ltb (length d) (length c - 8) hd, tested, text))
        did
