-- The body's bytes: its text has 19 and it 31, its fields read back from it, and it stands where the code wrote its parts.
-- Assumes nothing.
use Rattle.std.specs.Prelude.{Result}
use Rattle.refusal.specs.declared.Refusal.{Refusal}
use mathlib.Core.Path.{◌≡◌, refl, sym, ◌∙◌, ap, ap₂, subst}
use mathlib.Core.Bool.{cond}
use mathlib.Core.List.{List, [], ◌∷◌, ◌++◌, append-nil, append_assoc}
use Prim.Native.Nat.{ℕ, ◌+◌, ◌-◌, ◌*◌, ◌/◌, ◌%◌, ◌<◌, ◌≤◌}
use native.Mathlib.Decide.{dec_lt}
use native.Mathlib.Nat.{div-add-mod', le_refl}
use native.Mathlib.Omega.{arith}
use borrow.Author.Tests.{lt-ltb, le-ltb}
use borrow.Rule.Slice.PartMut.{put_mid}
use lib.Dec.{ltb}
use lib.ListN.{length, get_or, take, drop, length-append, length-drop, drop_of_length-le, get_or-eq_default}
use lib.Seq.{take_all, take_at, drop_at, drop-drop}
use Rattle.lemmas.specs.lists.Digits.{digits}
use Rattle.lemmas.specs.lists.Table.{table}
use Rattle.lemmas.specs.lists.TableLemmas.{table-self}
use Rattle.aes_ccm.specs.Ccm.{sealed, two}
use Rattle.aes_ccm.specs.Laws.{CcmLaws}
use Rattle.aes_ccm.specs.Plan.{Plan, emit, Did, after, seal_plan}
use Rattle.join_proxy.specs.declared.judging.Pledge.{Pledge}
use Rattle.join_proxy.specs.Body.{four, number_of, nonce_with, eight, pledge_text, body_of, BodyWritten}
use Rattle.join_proxy.specs.Judging.{pledge_in}
use Rattle.join_proxy.specs.Laws.{pledge_for}

turned : (a b c d : ℕ) → a * 16777216 + b * 65536 + c * 256 + d ≡ d + c * 256 + b * 65536 + a * 16777216
turned a b c d = omega arith

-- a number is the number of its four bytes
pub number-back : (n : ℕ) → number_of (four n) ≡ n
number-back n = turned (n / 16777216) (n / 65536 % 256) (n / 256 % 256) (n % 256) ∙ sym (digits n)

length_fields : (a b c d e f g h port : ℕ) (token : List ℕ) → length (pledge_text (a ∷ b ∷ c ∷ d ∷ e ∷ f ∷ g ∷ h ∷ []) port token) ≡ 19
unfolding pledge_text table
length_fields a b c d e f g h port token = refl

pub length-text : (interface : List ℕ) (port : ℕ) (token : List ℕ) → length interface ≡ 8 → length (pledge_text interface port token) ≡ 19
unfolding table
length-text interface port token e =
    let i : ℕ → ℕ = λ k. get_or interface k 0 in
    subst (λ (l : List ℕ). length (pledge_text l port token) ≡ 19) (table-self interface 0 8 i e (λ k h. refl))
    (length_fields (i 0) (i 1) (i 2) (i 3) (i 4) (i 5) (i 6) (i 7) port token)

pub length-body : CcmLaws → (key : List ℕ) (n : ℕ) (text : List ℕ) → length text ≡ 19 → length (body_of key (four n) text) ≡ 31
unfolding body_of
length-body laws key n text e = rw (laws.length-sealed key (nonce_with (four n)) [] text, e)

-- ---- the fields read back
-- a byte of the token, and 0 past its end
kept : (token : List ℕ) (i : ℕ) → cond (ltb i (length token)) (get_or token i 0) 0 ≡ get_or token i 0
kept token i = by_side (dec_lt i (length token))
  where
    by_side : Dec (i < length token) → cond (ltb i (length token)) (get_or token i 0) 0 ≡ get_or token i 0
    by_side (yes h) = rw (lt-ltb i (length token) h)
    by_side (no h) =
        let past : length token ≤ i = omega arith in
        rw (le-ltb i (length token) past) (sym (get_or-eq_default token 0 past))

eight-eq : {a b c d e f g h a' b' c' d' e' f' g' h' : ℕ} → a ≡ a' → b ≡ b' → c ≡ c' → d ≡ d' → e ≡ e' → f ≡ f' → g ≡ g' → h ≡ h'
    → a ∷ b ∷ c ∷ d ∷ e ∷ f ∷ g ∷ h ∷ [] ≡ a' ∷ b' ∷ c' ∷ d' ∷ e' ∷ f' ∷ g' ∷ h' ∷ []
eight-eq p q r s t u v w = cc

tokens : (token : List ℕ) → table 8 (λ i. cond (ltb i (length token)) (get_or token i 0) 0) ≡ eight token
unfolding table
tokens token =
    eight-eq (kept token 0) (kept token 1) (kept token 2) (kept token 3) (kept token 4) (kept token 5) (kept token 6) (kept token 7)

fields : (a b c d e f g h port : ℕ) (token : List ℕ)
    → pledge_in (pledge_text (a ∷ b ∷ c ∷ d ∷ e ∷ f ∷ g ∷ h ∷ []) port token) ≡ pledge_for (a ∷ b ∷ c ∷ d ∷ e ∷ f ∷ g ∷ h ∷ []) port token
unfolding pledge_in pledge_text table
fields a b c d e f g h port token =
    let named : ℕ → List ℕ → Pledge
    = λ p t. record { interface = a ∷ b ∷ c ∷ d ∷ e ∷ f ∷ g ∷ h ∷ []; port = p; len = length token; token = t } in
    ap₂ named (div-add-mod' port 256) (tokens token)

pub reads-back : (interface : List ℕ) (port : ℕ) (token : List ℕ) → length interface ≡ 8
    → pledge_in (pledge_text interface port token) ≡ pledge_for interface port token
unfolding table
reads-back interface port token e =
    let i : ℕ → ℕ = λ k. get_or interface k 0 in
    subst (λ (l : List ℕ). pledge_in (pledge_text l port token) ≡ pledge_for l port token)
    (table-self interface 0 8 i e (λ k h. refl))
    (fields (i 0) (i 1) (i 2) (i 3) (i 4) (i 5) (i 6) (i 7) port token)

-- what the text says of the token's length
pub token-length : (interface : List ℕ) (port : ℕ) (token : List ℕ) → length interface ≡ 8
    → get_or (pledge_text interface port token) 10 0 ≡ length token
unfolding pledge_in
token-length interface port token e = ap (λ w. w.len) (reads-back interface port token e)

-- the text's parts, one after the other
pub text-parts : (interface : List ℕ) (port : ℕ) (token : List ℕ)
    → interface ++ (port / 256) ∷ (port % 256) ∷ length token ∷ eight token ≡ pledge_text interface port token
unfolding pledge_text
text-parts interface port token = sym (append_assoc interface (two port) (length token ∷ eight token))

-- four bytes of a number
pub four-bytes : (n : ℕ) → n < 4294967296 → n / 16777216 % 256 ∷ n / 65536 % 256 ∷ n / 256 % 256 ∷ n % 256 ∷ [] ≡ four n
four-bytes n h = let e : n / 16777216 % 256 ≡ n / 16777216 = omega arith in rw e

-- two bytes of a port
pub two-bytes : (n : ℕ) → n < 65536 → n / 256 % 256 ∷ n % 256 ∷ [] ≡ two n
two-bytes n h = let e : n / 256 % 256 ≡ n / 256 = omega arith in rw e

-- ---- the body as it is written: the number first, and then the part after it is lent to sealing
-- what sealing left in the part after the number
sealed-part : CcmLaws → (key number text rest p : List ℕ) (r : Result ℕ Refusal) → length text ≡ 19 → 27 ≤ length rest
    → Did (seal_plan key (nonce_with number) [] text (length rest)) rest r p → p ≡ sealed key (nonce_with number) [] text ++ drop 27 rest
sealed-part laws key number text rest p r l h did =
    let long : length (sealed key (nonce_with number) [] text) ≡ 27 = laws.length-sealed key (nonce_with number) [] text ∙ rw l in
    let plan : seal_plan key (nonce_with number) [] text (length rest) ≡ emit (sealed key (nonce_with number) [] text)
    = laws.seals key (nonce_with number) [] text (length rest) (omega arith) (omega arith) (omega arith) in
    did.holds ∙ ap (λ (x : Plan). after x rest) plan ∙ ap (λ (k : ℕ). sealed key (nonce_with number) [] text ++ drop k rest) long

pub written-body : CcmLaws → (key text p : List ℕ) (r : Result ℕ Refusal) (number nonce d d1 : List ℕ) → length text ≡ 19 → length number ≡ 4
    → nonce ≡ nonce_with number → 31 ≤ length d → d1 ≡ number ++ drop 4 d
    → (let part = take (length d1 - 4) (drop 4 d1) in
    Did (seal_plan key nonce [] text (length part)) part r p → BodyWritten key number text d (put_mid 4 (length d1 - 4) d1 p))
unfolding body_of
written-body laws key text p r number nonce d d1 lt ln en h ed did =
    let rest = drop 4 d in
    let all : length rest ≡ length d - 4 = length-drop 4 d in
    let long : length d1 - 4 ≡ length rest = omega (arith, ap length ed ∙ length-append number rest) in
    let front : take 4 d1 ≡ number = ap (take 4) ed ∙ take_at number rest 4 ln in
    let back : drop 4 d1 ≡ rest = ap (drop 4) ed ∙ drop_at number rest 4 ln in
    let part : take (length d1 - 4) (drop 4 d1) ≡ rest = rw (back, long) (take_all (length rest) rest (omega arith)) in
    let gone : drop (length d1 - 4) (drop 4 d1) ≡ [] = rw (back, long) (drop_of_length-le rest (le_refl (length rest))) in
    let left : p ≡ sealed key (nonce_with number) [] text ++ drop 27 rest
    = sealed-part laws key number text rest p r lt (omega arith) (rw (part, en) at did) in
    let many : length (sealed key (nonce_with number) [] text) ≡ 27 = laws.length-sealed key (nonce_with number) [] text ∙ rw lt in
    record {
      long = length-append number (sealed key (nonce_with number) [] text) ∙ rw (ln, many);
      holds =
          rw (front, gone, append-nil p, left, drop-drop 27 4 d)
          (sym (append_assoc number (sealed key (nonce_with number) [] text) (drop 31 d)));
    }
