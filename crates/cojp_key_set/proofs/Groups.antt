-- A group is read member by member: what each member is decides what may come next, as in the definition.
use Prim.Native.Nat.{ℕ, ◌+◌, ◌-◌, ◌≤◌, ◌<◌}
use mathlib.Core.Path.{◌≡◌, refl, ap, sym, ◌∙◌}
use mathlib.Core.Bool.{Bool, true, false}
use mathlib.Core.List.{List, [], ◌∷◌}
use native.Mathlib.Omega.{arith}
use lib.ListN.{length, take, drop}
use Rattle.cbor.specs.View.{Scalar, number, minus, string, other}
use Rattle.link_key.specs.AdditionalInfo.{additional_info_in}
use Rattle.link_key.specs.declared.additional_info.AdditionalInfo.TheVariants as info
use Rattle.cojp_key_set.specs.Groups.{GroupAt, GroupRest, additional_info_answer, additional_info_before}
use Rattle.cojp.specs.Bytes.{members_at, after_members, Neither, MemberAt, MemberSpec}
use Rattle.cojp.specs.KeySet.{Groups, not_groups, group, groups, identified, used, valued}
use Rattle.cojp_key_set.specs.declared.group.Group.{Group}
use Rattle.std.specs.declared.option.Option.{Option as Found}
use Rattle.std.specs.declared.option.Option.TheVariants.{None, Some}
use Rattle.std.specs.Option.{unwrap_or}
use Rattle.link_key.specs.declared.additional_info.AdditionalInfo.{AdditionalInfo}
use Rattle.cojp.specs.declared.members.Member.{Member}
use Rattle.cojp.specs.declared.members.Member.TheVariants as mv
use Rattle.cojp.proofs.Arrays.{members-some}
use Rattle.cojp_key_set.proofs.Infos.{info-none, info-some}

-- a group that was read
abbrev pub closed : (identifier usage start len extra next left : ℕ) → Found Group
closed i u p a x q m = Some (record { identifier = i; usage = u; start = p; len = a; extra = x; next = q; left = m })

pub rest-on : (s : List ℕ) (at n q m : ℕ) (r : Found Group) → after_members n (drop at s) ≡ after_members m (drop q s) → GroupRest s q m r
    → GroupRest s at n r
rest-on s at n q m None e w = tt
rest-on s at n q m (Some g) e w = e ∙ w

module _ (b : Bool) where
  -- the same groups, with more members left
  regroup : (l : List ℕ) (m n : ℕ) (gs hs : Groups) (r : Found Group) → m ≤ n → gs ≡ hs → GroupAt b l m hs r → GroupAt b l n gs r
  regroup l m n gs hs None k e w = e ∙ w
  regroup l m n gs hs (Some g) k e w = (w.0, w.1, w.2, omega (arith, w.3), e ∙ w.4)

  module _ (l : List ℕ) (n : ℕ) (v : Member) where
    module _ (h : 0 < n) (e : MemberSpec l 0 n v) where
      pub group-begun :
          (x p : ℕ) → v ≡ mv.Number x p → (r : Found Group) → GroupAt b l (n - 1) (identified b x (members_at (n - 1) (drop p l))) r →
          GroupAt b l n (groups b (members_at n l)) r
      unfolding groups
      group-begun x p g r q =
          let w : MemberAt l 0 n (mv.Number x p) = rw g at e.here in
          regroup l (n - 1) n _ _ r (omega arith) (ap (groups b) w.1) q

      pub group-headless : ((x p : ℕ) → v ≡ mv.Number x p → ⊥) → GroupAt b l n (groups b (members_at n l)) None
      unfolding groups
      group-headless o = go v e.here o
        where
          none : (p : Scalar) (ps : List Scalar) → Neither (p ∷ ps) → groups b (p ∷ ps) ≡ not_groups
          none (number x) ps w = absurd w
          none (minus x) ps w = refl
          none (string s) ps w = refl
          none other ps w = refl

          go : (v : Member) → MemberAt l 0 n v → ((x p : ℕ) → v ≡ mv.Number x p → ⊥) → groups b (members_at n l) ≡ not_groups
          go (mv.Number x p) w o = absurd (o x p refl)
          go (mv.Bytes p a) w o = rw w.2
          go mv.Neither w o = let (p, ps, f) = members-some n l h in rw f (none p ps (rw f at w))

    module _ (at i : ℕ) (e : MemberSpec l at n v) where
      pub group-used :
          (u p : ℕ) → v ≡ mv.Number u p → (r : Found Group) → GroupAt b l (n - 1) (used b i u (members_at (n - 1) (drop p l))) r →
          GroupAt b l n (identified b i (members_at n (drop at l))) r
      unfolding groups
      group-used u p g r q =
          let w : MemberAt l at n (mv.Number u p) = rw g at e.here in
          regroup l (n - 1) n _ _ r (omega arith) (ap (identified b i) w.1) q

      pub group-pair :
          (p a : ℕ) → v ≡ mv.Bytes p a → (r : Found Group) →
          GroupAt b l (n - 1 + 1) (valued b i 0 (take a (drop p l)) (members_at (n - 1) (drop (p + a) l))) r →
          GroupAt b l n (identified b i (members_at n (drop at l))) r
      unfolding groups
      group-pair p a g r q =
          let w : MemberAt l at n (mv.Bytes p a) = rw g at e.here in
          regroup l (n - 1 + 1) n _ _ r (omega (arith, w.0)) (ap (identified b i) w.2) q

      pub group-open : v ≡ mv.Neither → GroupAt b l n (identified b i (members_at n (drop at l))) None
      unfolding groups
      group-open g = go (members_at n (drop at l)) (let w : MemberAt l at n mv.Neither = rw g at e.here in w)
        where
          go : (ps : List Scalar) → Neither ps → identified b i ps ≡ not_groups
          go [] w = refl
          go (number x ∷ ps) w = absurd w
          go (string s ∷ ps) w = absurd w
          go (minus x ∷ ps) w = refl
          go (other ∷ ps) w = refl

      module _ (u : ℕ) where
        pub group-triple :
            (p a : ℕ) → v ≡ mv.Bytes p a → (r : Found Group) →
            GroupAt b l (n - 1 + 1) (valued b i u (take a (drop p l)) (members_at (n - 1) (drop (p + a) l))) r →
            GroupAt b l n (used b i u (members_at n (drop at l))) r
        unfolding groups
        group-triple p a g r q =
            let w : MemberAt l at n (mv.Bytes p a) = rw g at e.here in
            regroup l (n - 1 + 1) n _ _ r (omega (arith, w.0)) (ap (used b i u) w.2) q

        pub group-valueless : ((q k : ℕ) → v ≡ mv.Bytes q k → ⊥) → GroupAt b l n (used b i u (members_at n (drop at l))) None
        unfolding groups
        group-valueless o = go v e.here o
          where
            none : (ps : List Scalar) → Neither ps → used b i u ps ≡ not_groups
            none [] w = refl
            none (number x ∷ ps) w = absurd w
            none (string s ∷ ps) w = absurd w
            none (minus x ∷ ps) w = refl
            none (other ∷ ps) w = refl

            go : (v : Member) → MemberAt l at n v → ((q k : ℕ) → v ≡ mv.Bytes q k → ⊥)
                → used b i u (members_at n (drop at l)) ≡ not_groups
            go (mv.Number x p) w o = rw w.1
            go (mv.Bytes p a) w o = absurd (o p a refl)
            go mv.Neither w o = none (members_at n (drop at l)) w

-- ---- after a value, of a bytes from p on
module _ (l : List ℕ) (i u p a n : ℕ) (h : p + a ≤ length l) where
  abbrev left_over : List Scalar
  left_over = members_at n (drop (p + a) l)

  abbrev value-here : List ℕ
  value-here = take a (drop p l)

  -- without additional information the next group begins where the value ends
  value-ends : (b : Bool) → valued b i u value-here left_over ≡ group i u value-here info.Absent (groups b left_over)
      → GroupAt b l (n + 1) (valued b i u value-here left_over) (closed i u p a 0 (p + a) n)
  value-ends b e = (h, omega arith, h, omega arith, e)

  -- in the draft, whatever comes
  pub value-draft : GroupAt false l (n + 1) (valued false i u value-here left_over) (closed i u p a 0 (p + a) n)
  unfolding groups
  value-draft = value-ends false (go left_over)
    where
      go : (ps : List Scalar) → valued false i u value-here ps ≡ group i u value-here info.Absent (groups false ps)
      go [] = refl
      go (number x ∷ ps) = refl
      go (minus x ∷ ps) = refl
      go (string s ∷ ps) = refl
      go (other ∷ ps) = refl

  module _ (v : Member) (e : MemberSpec l (p + a) n v) where
    -- where no byte string comes
    pub value-last :
        ((q k : ℕ) → v ≡ mv.Bytes q k → ⊥) →
        GroupAt true l (n + 1) (valued true i u value-here left_over) (closed i u p a 0 (p + a) n)
    unfolding groups
    value-last o = value-ends true (go v e.here o)
      where
        none : (ps : List Scalar) → Neither ps → valued true i u value-here ps ≡ group i u value-here info.Absent (groups true ps)
        none [] w = refl
        none (number x ∷ ps) w = refl
        none (string s ∷ ps) w = absurd w
        none (minus x ∷ ps) w = refl
        none (other ∷ ps) w = refl

        go : (v : Member) → MemberAt l (p + a) n v → ((q k : ℕ) → v ≡ mv.Bytes q k → ⊥)
            → valued true i u value-here left_over ≡ group i u value-here info.Absent (groups true left_over)
        go (mv.Number x q) w o = rw w.1
        go (mv.Bytes q k) w o = absurd (o q k refl)
        go mv.Neither w o = none left_over w

    -- where one comes, of k bytes from q on, it is additional information or breaks the pattern
    module _ (q k : ℕ) (g : v ≡ mv.Bytes q k) where
      info-here : MemberAt l (p + a) n (mv.Bytes q k)
      info-here = rw g at e.here

      pub value-broken : None ≡ additional_info_answer (additional_info_in (take k (drop q l))) → valued true i u value-here left_over ≡ not_groups
      unfolding groups
      value-broken z = rw (info-here.2, info-none (additional_info_in (take k (drop q l))) (sym z))

      module _ (x : AdditionalInfo) (z : Some x ≡ additional_info_answer (additional_info_in (take k (drop q l)))) where
        -- it stands right before the place where it ends
        info-before : additional_info_before l (q + k) k ≡ x
        info-before =
            let begin : q + k - k ≡ q = omega arith in
            ap (λ (at : ℕ). unwrap_or (additional_info_answer (additional_info_in (take k (drop at l)))) info.Absent) begin
            ∙ ap (λ (y : Found AdditionalInfo). unwrap_or y info.Absent) (sym z)

        pub value-allowed : GroupAt true l (n + 1) (valued true i u value-here left_over) (closed i u p a k (q + k) (n - 1))
        unfolding groups
        value-allowed = (
          h,
          omega arith,
          info-here.1,
          omega arith,
          rw (info-before, info-here.2, info-some (additional_info_in (take k (drop q l))) x (sym z)),
        )
