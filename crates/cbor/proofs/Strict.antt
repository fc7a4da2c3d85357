-- The strict reading is the ordinary one up to the first longer head that it meets. Each part is said by one equation: LOOSE where a
-- longer head was met, else the ordinary outcome; and such equations join as the readings do.
use Rattle.std.specs.Prelude.{Result, Ok, Err}
use Prim.Native.Nat.{ℕ, zero, suc, ◌-◌, ◌%◌, ◌^◌, ◌≤◌}
use mathlib.Core.Path.{◌≡◌, refl, sym, ap, ◌∙◌}
use mathlib.Core.Bool.{Bool, true, false, cond}
use mathlib.Core.List.{List, [], ◌∷◌}
use mathlib.Core.Logic.{◌⊎◌, inl, inr}
use native.Mathlib.Omega.{arith}
use lib.Dec.{ltb, leb}
use lib.ListN.{length, drop}
use Rattle.refusal.specs.Refusal.{number_of}
use Rattle.refusal.specs.declared.Refusal.{Refusal}
use Rattle.refusal.specs.declared.Refusal.TheVariants.{Loose}
use Rattle.cbor.specs.Item.{Item, more, pair, array, map_item, tag}
use Rattle.cbor.specs.Decode.{Outcome, refused, got, and_then, next, argument, heading, Heading, members, pairs, Major, unsigneds}
use Rattle.cbor.specs.Decode.{negatives, byte_strings, text_strings, arrays, maps, tags, others}
use Rattle.cbor.specs.Decode.{major_of, content, decode_by, decode, payload, payload_by, ended}
use Rattle.cbor.specs.Answer.{head_answer}
use Rattle.cbor.specs.declared.head.Head.{Head}
use Rattle.cbor.specs.Strict.{short, short_only, strict_heading, head_by, after, loose_members}
use Rattle.cbor.specs.Strict.{loose_pairs, loose_content, loose_head, loose, strict_payload, loose_payload}

-- ---- a head, by the returns of `read_head_by`
abbrev strictly : Result Head Refusal → Result Head Refusal
strictly (Err k) = Err k
strictly (Ok h) = cond h.short (Ok h) (Err Loose)

strict-answer : (n : ℕ) (o : Outcome Heading) → strictly (head_answer n o) ≡ head_answer n (and_then o short_only)
strict-answer n (refused k) = refl
strict-answer n (got h t) = go (short h)
  where
    go : (b : Bool) → cond b (head_answer n (got h t)) (Err Loose) ≡ head_answer n (cond b (got h t) (refused Loose))
    go true = refl
    go false = refl

module _ (s : List ℕ) (at : ℕ) (b : Bool) (r : Result Head Refusal) (e : r ≡ head_answer (length s) (heading (drop at s))) where
  pub not-strict : b ≡ false → r ≡ head_answer (length s) (head_by b (drop at s))
  not-strict f = rw f e

  module _ (f : b ≡ true) where
    strict-as : (q : Result Head Refusal) → r ≡ q → strictly q ≡ head_answer (length s) (head_by b (drop at s))
    unfolding strict_heading
    strict-as q g = rw f (ap strictly (sym g ∙ e) ∙ strict-answer (length s) (heading (drop at s)))

    pub strict-kept : (h : Head) → r ≡ Ok h → h.short ≡ true → Ok h ≡ head_answer (length s) (head_by b (drop at s))
    strict-kept h g i = sym (ap (λ (x : Bool). cond x (Ok h) (Err Loose)) i) ∙ strict-as (Ok h) g

    pub strict-loose : (h : Head) → r ≡ Ok h → h.short ≡ false → Err Loose ≡ head_answer (length s) (head_by b (drop at s))
    strict-loose h g i = sym (ap (λ (x : Bool). cond x (Ok h) (Err Loose)) i) ∙ strict-as (Ok h) g

  -- a head that was refused is so, strictly or not
  pub strict-refused : (k : Refusal) → r ≡ Err k → Err k ≡ head_answer (length s) (head_by b (drop at s))
  strict-refused k g = go b refl
    where
      go : (c : Bool) → b ≡ c → Err k ≡ head_answer (length s) (head_by b (drop at s))
      go true f = strict-as f (Err k) g
      go false f = sym g ∙ not-strict f

-- LOOSE, or what was said
abbrev or-loose : {A : Type 0} → Bool → Outcome A → Outcome A
or-loose b o = cond b (refused Loose) o

-- one after the other
then-loose : {A B : Type 0} (b : Bool) (o : Outcome A) (f f' : A → List ℕ → Outcome B) (g : List ℕ → Bool)
    → ((a : A) (t : List ℕ) → f' a t ≡ or-loose (g t) (f a t))
    → and_then (or-loose b o) f' ≡ or-loose (cond b true (after o g)) (and_then o f)
then-loose true o f f' g h = refl
then-loose false (refused k) f f' g h = refl
then-loose false (got a t) f f' g h = h a t

-- what only puts a value together meets nothing
then-built : {A B : Type 0} (b : Bool) (o : Outcome A) (f : A → B)
    → and_then (or-loose b o) (λ a t. got (f a) t) ≡ or-loose b (and_then o (λ a t. got (f a) t))
then-built true o f = refl
then-built false o f = refl

module _ (item item' : List ℕ → Outcome Item) (longer : List ℕ → Bool) (same : (s : List ℕ) → item' s ≡ or-loose (longer s) (item s)) where
  members-loose : (n : ℕ) (s : List ℕ) → members item' n s ≡ or-loose (loose_members item longer n s) (members item n s)
  unfolding members loose_members
  members-loose zero s = refl
  members-loose (suc n) s =
      rw (same s)
      (then-loose (longer s) (item s) _ _ (λ t. loose_members item longer n t) (λ i t.
      rw (members-loose n t) (then-built (loose_members item longer n t) (members item n t) (more i))))

  pairs-loose : (n : ℕ) (s : List ℕ) → pairs item' n s ≡ or-loose (loose_pairs item longer n s) (pairs item n s)
  unfolding pairs loose_pairs
  pairs-loose zero s = refl
  pairs-loose (suc n) s =
      rw (same s)
      (then-loose (longer s) (item s) _ _ (λ t. cond (longer t) true (after (item t) (λ u. loose_pairs item longer n u))) (λ k t.
      rw (same t)
      (then-loose (longer t) (item t) _ _ (λ u. loose_pairs item longer n u) (λ v u.
      rw (pairs-loose n u) (then-built (loose_pairs item longer n u) (pairs item n u) (pair k v))))))

  content-loose : (M : Major) (x a : ℕ) (s : List ℕ)
      → content item' M x a s ≡ or-loose (loose_content item longer M a s) (content item M x a s)
  content-loose unsigneds x a s = refl
  content-loose negatives x a s = refl
  content-loose byte_strings x a s = refl
  content-loose text_strings x a s = refl
  content-loose arrays x a s = rw (members-loose a s) (then-built (loose_members item longer a s) (members item a s) array)
  content-loose maps x a s = rw (pairs-loose a s) (then-built (loose_pairs item longer a s) (pairs item a s) map_item)
  content-loose tags x a s = rw (same s) (then-built (longer s) (item s) (tag a))
  content-loose others x a s = refl

module _ (item item' : List ℕ → Outcome Item) (longer : List ℕ → Bool) (same : (s : List ℕ) → item' s ≡ or-loose (longer s) (item s)) where
  judged-loose : (b : Bool) (h : Heading) (t : List ℕ)
      → and_then (cond b (got h t) (refused Loose)) (λ h t. content item' (major_of h.major) h.info h.argument t)
      ≡ or-loose (cond b (loose_content item longer (major_of h.major) h.argument t) true)
      (content item (major_of h.major) h.info h.argument t)
  judged-loose true h t = content-loose item item' longer same (major_of h.major) h.info h.argument t
  judged-loose false h t = refl

  headed-loose : (o : Outcome Heading)
      → and_then (and_then o short_only) (λ h t. content item' (major_of h.major) h.info h.argument t)
      ≡ or-loose (loose_head o (λ h t. loose_content item longer (major_of h.major) h.argument t))
      (and_then o (λ h t. content item (major_of h.major) h.info h.argument t))
  headed-loose (refused k) = refl
  headed-loose (got h t) = judged-loose (short h) h t

decode-loose : (d : ℕ) (s : List ℕ) → decode_by strict_heading d s ≡ or-loose (loose d s) (decode d s)
unfolding decode_by loose strict_heading
decode-loose zero s = refl
decode-loose (suc d) s = headed-loose (decode d) (decode_by strict_heading d) (loose d) (decode-loose d) (heading s)

pub payload-loose : (s : List ℕ) → strict_payload s ≡ or-loose (loose_payload s) (payload s)
unfolding payload_by
payload-loose s = rw (decode-loose 8 s) (go (loose 8 s))
  where
    go : (b : Bool) → and_then (or-loose b (decode 8 s)) ended ≡ or-loose b (and_then (decode 8 s) ended)
    go true = refl
    go false = refl

-- read strictly or not, a payload is LOOSE or what the ordinary reading says
pub payload_same : (b : Bool) (s : List ℕ) → (payload_by (head_by b) s ≡ refused Loose) ⊎ (payload_by (head_by b) s ≡ payload s)
payload_same false s = inr refl
payload_same true s = go (loose_payload s) (payload-loose s)
  where
    go : (c : Bool) → strict_payload s ≡ or-loose c (payload s) → (strict_payload s ≡ refused Loose) ⊎ (strict_payload s ≡ payload s)
    go true e = inl e
    go false e = inr e

-- ---- the ordinary reading has refusals 1 to 4 alone
abbrev Firm : {A : Type 0} → Outcome A → Type 0
Firm (refused k) = number_of k ≤ 4
Firm (got a t) = Unit {0}

firm-then : {A B : Type 0} (o : Outcome A) (f : A → List ℕ → Outcome B) → Firm o → ((a : A) (t : List ℕ) → Firm (f a t))
    → Firm (and_then o f)
firm-then (refused k) f p q = p
firm-then (got a t) f p q = q a t

firm-cond : {A : Type 0} (b : Bool) (x y : Outcome A) → Firm x → Firm y → Firm (cond b x y)
firm-cond true x y p q = p
firm-cond false x y p q = q

next-firm : (n : ℕ) (s : List ℕ) → Firm (next n s)
unfolding next
next-firm n s = firm-cond (leb n (length s)) _ _ tt (omega arith)

heading-firm : (s : List ℕ) → Firm (heading s)
unfolding heading argument
heading-firm [] = omega arith
heading-firm (b ∷ s) =
    firm-then (argument (b % 32) s) _
    (firm-cond (ltb (b % 32) 24) _ _ tt
    (firm-cond (ltb 27 (b % 32)) _ _ (omega arith)
    (firm-then (next (2 ^ (b % 32 - 24)) s) _ (next-firm (2 ^ (b % 32 - 24)) s) (λ bs t. tt))))
    (λ n t. tt)

module _ (item : List ℕ → Outcome Item) (firm : (s : List ℕ) → Firm (item s)) where
  members-firm : (n : ℕ) (s : List ℕ) → Firm (members item n s)
  unfolding members
  members-firm zero s = tt
  members-firm (suc n) s = firm-then (item s) _ (firm s) (λ i t. firm-then (members item n t) _ (members-firm n t) (λ is u. tt))

  pairs-firm : (n : ℕ) (s : List ℕ) → Firm (pairs item n s)
  unfolding pairs
  pairs-firm zero s = tt
  pairs-firm (suc n) s =
      firm-then (item s) _ (firm s)
      (λ k t. firm-then (item t) _ (firm t) (λ v u. firm-then (pairs item n u) _ (pairs-firm n u) (λ ps w. tt)))

  content-firm : (M : Major) (x a : ℕ) (s : List ℕ) → Firm (content item M x a s)
  content-firm unsigneds x a s = tt
  content-firm negatives x a s = tt
  content-firm byte_strings x a s = firm-then (next a s) _ (next-firm a s) (λ bs t. tt)
  content-firm text_strings x a s = firm-then (next a s) _ (next-firm a s) (λ bs t. tt)
  content-firm arrays x a s = firm-then (members item a s) _ (members-firm a s) (λ is t. tt)
  content-firm maps x a s = firm-then (pairs item a s) _ (pairs-firm a s) (λ ps t. tt)
  content-firm tags x a s = firm-then (item s) _ (firm s) (λ i t. tt)
  content-firm others x a s = tt

decode-firm : (d : ℕ) (s : List ℕ) → Firm (decode d s)
unfolding decode_by
decode-firm zero s = omega arith
decode-firm (suc d) s =
    firm-then (heading s) _ (heading-firm s) (λ h t. content-firm (decode d) (decode-firm d) (major_of h.major) h.info h.argument t)

payload-firm : (s : List ℕ) → Firm (payload s)
unfolding payload_by
payload-firm s = firm-then (decode 8 s) ended (decode-firm 8 s) ended-firm
  where
    ended-firm : (i : Item) (t : List ℕ) → Firm (ended i t)
    ended-firm i [] = tt
    ended-firm i (b ∷ t) = omega arith

pub never-loose : (s : List ℕ) → payload s ≡ refused Loose → ⊥
never-loose s e = let h : Firm {A = Item} (refused Loose) = rw e at (payload-firm s) in omega (arith, h)
