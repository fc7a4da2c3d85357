-- What was sealed opens, since the key stream cancels itself and the tag is made of the same text;
-- and what opens was sealed, for the same reason backwards.
-- Assumes nothing.
use Rattle.std.specs.Prelude.{Result}
use mathlib.Core.Path.{◌≡◌, refl, sym, ◌∙◌, ap, ap₂, subst}
use mathlib.Core.Bool.{Bool, true, false, cond}
use mathlib.Core.List.{List, ◌++◌}
use Prim.Native.Nat.{ℕ, ◌+◌, ◌-◌, ◌≤◌}
use native.Mathlib.Omega.{arith}
use borrow.Author.Tests.{le-ltb, ltb-false}
use lib.Dec.{ltb}
use lib.ListN.{length, take, drop, take-append-drop}
use lib.Seq.{take_at, drop_at}
use Rattle.refusal.specs.declared.Refusal.{Refusal}
use Rattle.refusal.specs.declared.Refusal.TheVariants.{Seal}
use Rattle.refusal.specs.Refusal.{number_of}
use Rattle.lemmas.specs.lists.SameLemmas.{same-equal, same_refl}
use Rattle.aes.specs.Bounds.{Bytes}
use Rattle.aes.specs.BoundsLemmas.{cut as cut-bytes}
use Rattle.aes.specs.Cipher.{round_keys}
use Rattle.aes.specs.Laws.{AesLaws}
use Rattle.aes_ccm.specs.Ccm.{crypt, tag, sealed, text_of, genuine}
use Rattle.aes_ccm.specs.Plan.{Plan, refuse, emit, Did, number_in, length_in, release_plan, unseal_plan}
use Rattle.aes_ccm.specs.Laws.{CcmLaws, Judged, RightTag}
use Rattle.aes_ccm.proofs.Streams.{length-crypt, crypt-crypt, crypted}
use Rattle.aes_ccm.proofs.Done.{length-sealed, seal-plan}

-- a plan that goes on past a refusal
passed : (b : Bool) (k : Refusal) (p : Plan) (m : List ℕ) → cond b (refuse k) p ≡ emit m → (b ≡ false) × (p ≡ emit m)
passed true k p m e = absurd (let z : ◌≡◌ {A = ℕ} 0 1 = cc in omega arith)
passed false k p m e = (refl, e)

released : (b : Bool) (t m : List ℕ) → release_plan b t ≡ emit m → (b ≡ true) × (t ≡ m)
unfolding release_plan
released true t m e = (refl, cc)
released false t m e = absurd (let z : ◌≡◌ {A = ℕ} 0 1 = cc in omega arith)

judged-plan : (key nonce a c : List ℕ) (room : ℕ) → Judged a c room
    → unseal_plan key nonce a c room ≡ release_plan (genuine key nonce a c) (text_of key nonce c)
unfolding unseal_plan
judged-plan key nonce a c room j =
    rw (
      le-ltb 64 (length a) j.data-fits,
      le-ltb (length c) 8 j.tag-there,
      le-ltb 264 (length c) j.text-fits,
      le-ltb room (length c - 8) j.has_room,
    )

-- an accepted input has eight bytes, a right tag and that text
pub record Accepted (key nonce a c m : List ℕ) : Type 0 where
  pub tag-there : 8 ≤ length c
  pub right : genuine key nonce a c ≡ true
  pub text : text_of key nonce c ≡ m

accepted : (key nonce a c m : List ℕ) (room : ℕ) → unseal_plan key nonce a c room ≡ emit m → Accepted key nonce a c m
unfolding unseal_plan
accepted key nonce a c m room e =
    let p1 = passed (ltb 64 (length a)) _ _ m e in
    let p2 = passed (ltb (length c) 8) _ _ m p1.1 in
    let p3 = passed (ltb 264 (length c)) _ _ m p2.1 in
    let p4 = passed (ltb room (length c - 8)) _ _ m p3.1 in
    let p5 = released (genuine key nonce a c) (text_of key nonce c) m p4.1 in
    record { tag-there = ltb-false (length c) 8 p2.0; right = p5.0; text = p5.1 }

right-tag : (key nonce a c : List ℕ) (room : ℕ) → Judged a c room → RightTag key nonce a c
    → unseal_plan key nonce a c room ≡ emit (text_of key nonce c)
unfolding genuine release_plan
right-tag key nonce a c room j e =
    judged-plan key nonce a c room j ∙ rw (e, same_refl (tag (round_keys 10 key) nonce a (text_of key nonce c)))

refuses : (b : Bool) (t : List ℕ) → (b ≡ true → ⊥) → release_plan b t ≡ refuse Seal
unfolding release_plan
refuses true t wrong = absurd (wrong refl)
refuses false t wrong = refl

wrong-tag : (key nonce a c : List ℕ) (room : ℕ) → Judged a c room → (RightTag key nonce a c → ⊥)
    → unseal_plan key nonce a c room ≡ refuse Seal
unfolding genuine
wrong-tag key nonce a c room j wrong =
    judged-plan key nonce a c room j
    ∙ refuses (genuine key nonce a c) (text_of key nonce c)
    (λ g. wrong (same-equal (drop (length c - 8) c) (tag (round_keys 10 key) nonce a (text_of key nonce c)) g))

module _ (laws : AesLaws) (key nonce a : List ℕ) where
  opened-was-sealed : (c m : List ℕ) (room : ℕ) → unseal_plan key nonce a c room ≡ emit m → c ≡ sealed key nonce a m
  unfolding genuine text_of sealed
  opened-was-sealed c m room e =
      let was = accepted key nonce a c m room e in
      let ks = round_keys 10 key in
      let n = length c - 8 in
      let front : take n c ≡ crypt ks nonce m = sym (crypt-crypt laws ks nonce (take n c)) ∙ ap (crypt ks nonce) was.text in
      let back : drop n c ≡ tag ks nonce a m
      = same-equal (drop n c) (tag ks nonce a (text_of key nonce c)) was.right ∙ ap (tag ks nonce a) was.text in
      sym (take-append-drop n c) ∙ ap₂ (λ (x y : List ℕ). x ++ y) front back

  opened-bytes : (c m : List ℕ) (room : ℕ) → Bytes key → Bytes c → unseal_plan key nonce a c room ≡ emit m → Bytes m
  unfolding text_of
  opened-bytes c m room f g e =
      subst Bytes (accepted key nonce a c m room e).text (crypted laws key nonce (take (length c - 8) c) f (cut-bytes (length c - 8) c g))

  module _ (m : List ℕ) where
    cut : length (crypt (round_keys 10 key) nonce m) ≡ length (sealed key nonce a m) - 8
    cut = omega (arith, length-crypt (round_keys 10 key) nonce m, length-sealed key nonce a m)

    text-back : text_of key nonce (sealed key nonce a m) ≡ m
    unfolding text_of sealed
    text-back =
        ap (crypt (round_keys 10 key) nonce)
        (take_at (crypt (round_keys 10 key) nonce m) (tag (round_keys 10 key) nonce a m) (length (sealed key nonce a m) - 8) cut)
        ∙ crypt-crypt laws (round_keys 10 key) nonce m

    right : RightTag key nonce a (sealed key nonce a m)
    unfolding sealed
    right =
        drop_at (crypt (round_keys 10 key) nonce m) (tag (round_keys 10 key) nonce a m) (length (sealed key nonce a m) - 8) cut
        ∙ ap (tag (round_keys 10 key) nonce a) (sym text-back)

    sealed-opens : (room : ℕ) → length a ≤ 64 → length m ≤ 256 → length m ≤ room
        → unseal_plan key nonce a (sealed key nonce a m) room ≡ emit m
    sealed-opens room ha hm hr =
        let n : length (sealed key nonce a m) ≡ length m + 8 = length-sealed key nonce a m in
        let fits : Judged a (sealed key nonce a m) room
        = record { data-fits = ha; tag-there = omega arith; text-fits = omega arith; has_room = omega arith } in
        right-tag key nonce a (sealed key nonce a m) room fits right ∙ ap emit text-back

refused : (k : Refusal) (d d' : List ℕ) (r : Result ℕ Refusal) → Did (refuse k) d r d'
    → (number_in r ≡ number_of k) × (length_in r ≡ 0) × (d' ≡ d)
refused k d d' r did = (rw did.says, rw did.says, did.holds)

pub ccm-laws : AesLaws → CcmLaws
ccm-laws laws =
    record {
      seals = seal-plan;
      sealed-opens = sealed-opens laws;
      opened-was-sealed = opened-was-sealed laws;
      right-tag = right-tag;
      wrong-tag = wrong-tag;
      opened-bytes = opened-bytes laws;
      length-sealed = length-sealed;
      refused = refused;
    }
