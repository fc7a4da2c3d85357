-- Join requests: what a label names, its value, and the answer, case by case.
use Rattle.std.specs.Prelude.{Ok, Err, Result, IfOk}
use Prim.Native.Nat.{ℕ, zero, suc, ◌<◌}
use mathlib.Core.Path.{◌≡◌, refl, ap, sym, ◌∙◌}
use mathlib.Core.Bool.{Bool, true, false, cond}
use mathlib.Core.List.{List}
use native.Mathlib.Omega.{arith}
use lib.Dec.{eqb}
use lib.ListN.{drop}
use Rattle.refusal.specs.declared.Refusal.{Refusal}
use Rattle.cbor.specs.View.{View}
use Rattle.cojp.specs.Bytes.{value_view, after_value, EndsAt}
use Rattle.cojp.specs.ErrorReports.{added}
use Rattle.cojp.specs.Lists.{list_taken, unsupported_taken}
use Rattle.cojp.specs.Octets.{no_octets_parameter, octets_read}
use Rattle.cojp.specs.Reading.{Reading, read, map_reading, by_version_of}
use Rattle.cojp.specs.Request.{role_judged, role_gathered, list_gathered, role_label_status, with_network}
use Rattle.cojp.specs.Request.{request_passing, request_label_status, request_taking, request_form}
use Rattle.protocol_version.specs.Version.{by_version}
use Rattle.cojp.specs.Walk.{label_status_of, known_read}
use Rattle.cojp.specs.declared.error_report.ErrorReports.{ErrorReports}
use Rattle.cojp.specs.declared.list.ListRead.{ListRead}
use Rattle.cojp.specs.declared.octets.OctetsParameter.{OctetsParameter}
use Rattle.cojp.specs.declared.disposition.Disposition.{Disposition}
use Rattle.cojp.specs.declared.disposition.Disposition.TheVariants as report
use Rattle.cojp.specs.declared.request.RequestState.{RequestState}
use Rattle.protocol_version.specs.declared.Version.{Version}
use Rattle.protocol_version.specs.declared.Version.TheVariants.{Draft, Published}
use Rattle.cojp.specs.declared.walk.LabelStatus.{LabelStatus}
use Rattle.cojp.specs.declared.walk.LabelStatus.TheVariants.{Unknown}
use Rattle.cojp_map.specs.Pairs.{PairLabelSpec, seen, once}
use Rattle.cojp_map.proofs.Maps.{if_again, standing-seen}
use Rattle.cojp_read.specs.Pair.{reading_in, PairTaken}
use Rattle.cojp_read.proofs.Pairs.{put-reading, taken-known, taken-passed}
use Rattle.cojp_read.specs.request.Requests.{request_parameter_of, role_in, RoleSpec, unsupported_in, UnsupportedSpec}
use Rattle.cojp_read.specs.declared.request.parameter.RequestParameter.{RequestParameter}
use Rattle.cojp_read.specs.declared.request.parameter.RequestParameter.TheVariants as parameter
use Rattle.cojp_read.specs.declared.request.role.RoleRead.{RoleRead}
use Rattle.cojp_read.specs.declared.request.unsupported.UnsupportedRead.{UnsupportedRead}

pub by-version-same : {A : Type 0} (v : Version) (a : A) → by_version v a a ≡ a
by-version-same Draft a = refl
by-version-same Published a = refl

-- ---- a list of reports: taken, or reported itself
module _ (held : Disposition) (f : ErrorReports) (l : ListRead) (next : ℕ) (first : seen held ≡ false) where
  pub says-taken : l.good ≡ true
      → UnsupportedSpec held f (list_taken l) (Ok (record { parameter = list_taken l; errors = f; next = next }))
  says-taken h g e = rw (first, h, ← e)

  pub says-reported : l.good ≡ false
      → UnsupportedSpec held f (list_taken l)
      (Ok (record { parameter = list_taken l; errors = added f 1 8; next = next }))
  says-reported h g e = rw (first, h, ← e)

-- ---- what a form makes of a label goes by the parameter that it names
abbrev standing_for : RequestState → RequestParameter → LabelStatus
standing_for g parameter.Role = if_again g.named
standing_for g parameter.Network = label_status_of g.request.network.disposition
standing_for g parameter.Unsupported = label_status_of g.request.unsupported.disposition
standing_for g parameter.Unknown = Unknown

module _ (v : Version) (g : RequestState) (x : View) where
  abbrev taking_for : RequestParameter → Reading RequestState
  taking_for parameter.Role = role_gathered v g (role_judged x)
  taking_for parameter.Network = map_reading (with_network g) (by_version_of v (no_octets_parameter report.Discarded) (octets_read 0 x))
  taking_for parameter.Unsupported = read (list_gathered g (unsupported_taken x))
  taking_for parameter.Unknown = read (list_gathered g (unsupported_taken x))

  standing-named : (b : Bool) → role_label_status b ≡ if_again b
  standing-named true = refl
  standing-named false = refl

  module _ (n : ℕ) where
    standing-is : request_label_status v g n ≡ standing_for g (request_parameter_of v n)
    unfolding request_label_status request_parameter_of
    standing-is = go v (eqb n 1) (eqb n 5) (eqb n 8)
      where
        go : (v : Version) (a b c : Bool)
            → cond a (role_label_status g.named) (cond b (label_status_of g.request.network.disposition)
            (by_version v Unknown (cond c (label_status_of g.request.unsupported.disposition) Unknown)))
            ≡ standing_for g (cond a parameter.Role
            (cond b parameter.Network (by_version v parameter.Unknown (cond c parameter.Unsupported parameter.Unknown))))
        go v true b c = standing-named g.named
        go v false true c = refl
        go Draft false false c = refl
        go Published false false true = refl
        go Published false false false = refl

    taking-is : request_taking v g n x ≡ taking_for (request_parameter_of v n)
    unfolding request_taking request_parameter_of
    taking-is = go v (eqb n 1) (eqb n 5) (eqb n 8)
      where
        go : (w : Version) (a b c : Bool)
            → cond a (role_gathered v g (role_judged x)) (cond b
            (map_reading (with_network g) (by_version_of v (no_octets_parameter report.Discarded) (octets_read 0 x)))
            (read (list_gathered g (unsupported_taken x))))
            ≡ taking_for (cond a parameter.Role
            (cond b parameter.Network (by_version w parameter.Unknown (cond c parameter.Unsupported parameter.Unknown))))
        go w true b c = refl
        go w false true c = refl
        go Draft false false c = refl
        go Published false false true = refl
        go Published false false false = refl

    -- what the label comes to
    abbrev pub known : Reading RequestState
    known = known_read (request_form v) (request_label_status v g n) g n x

    known-once : (p : RequestParameter) → request_parameter_of v n ≡ p → (again : Bool) → standing_for g p ≡ if_again again
        → once again (taking_for p) ≡ known
    known-once p e again h = rw (standing-is, e, h) (go again)
      where
        go : (again : Bool) → once again (taking_for p) ≡ known_read (request_form v) (if_again again) g n x
        go true = refl
        go false = sym (taking-is ∙ ap taking_for e)

-- ---- a label that names a parameter is positive
abbrev is_known : RequestParameter → ℕ
is_known parameter.Role = 1
is_known parameter.Network = 1
is_known parameter.Unsupported = 1
is_known parameter.Unknown = 0

positive : (v : Version) (n : ℕ) (p : RequestParameter) → request_parameter_of v n ≡ p → is_known p ≡ 1 → 0 < n
unfolding request_parameter_of
positive v zero p e k =
    let none : request_parameter_of v 0 ≡ parameter.Unknown = by-version-same v parameter.Unknown in
    let z : ◌≡◌ {A = ℕ} 0 1 = ap is_known (sym none ∙ e) ∙ k in
    absurd (omega arith)
positive v (suc n) p e k = omega arith

put-once : {A B : Type 0} (f : A → B) (again : Bool) (x : Reading A) → map_reading f (once again x) ≡ once again (map_reading f x)
put-once f true x = refl
put-once f false x = refl

-- ---- one pair, by its label; p is the answer about the label
module _ (v : Version) (g : RequestState) (s l : List ℕ) (p : Result (ℕ × ℕ) Refusal)
    (t : PairLabelSpec s l p) (q : ℕ × ℕ) (h : p ≡ Ok q) where
  abbrev here : View
  here = value_view (drop q.1 s)

  abbrev after : List ℕ
  after = after_value (drop q.1 s)

  abbrev Taken : Result ℕ Refusal → RequestState → Type 0
  Taken = PairTaken (request_form v) g s l

  -- a known label, whose reader gave the answer r
  pair-known : (x : RequestParameter) → request_parameter_of v q.0 ≡ x → is_known x ≡ 1 → (again : Bool)
      → standing_for g x ≡ if_again again → (r : Result ℕ Refusal) (d : RequestState)
      → reading_in (λ (n : ℕ). d) r ≡ once again (taking_for v g here x) → IfOk r (λ (n : ℕ). EndsAt s n after) → Taken r d
  pair-known x e k again stands r d says ends =
      taken-known (request_form v) g s l p t q h (positive v q.0 x e k) r d (says ∙ known-once v g here q.0 x e again stands) ends

  pub role-read : request_parameter_of v q.0 ≡ parameter.Role → (r : RoleRead)
      → RoleSpec v g.named g.request.errors (role_judged here) (Ok r) → EndsAt s r.next after → Taken (Ok r.next) (role_in g r)
  role-read e r says ends = pair-known parameter.Role e refl g.named refl (Ok r.next) (role_in g r) (says g refl) ends

  pub role-refused : request_parameter_of v q.0 ≡ parameter.Role → (k : Refusal)
      → RoleSpec v g.named g.request.errors (role_judged here) (Err k) → (d : RequestState) → Taken (Err k) d
  role-refused e k says d = pair-known parameter.Role e refl g.named refl (Err k) d (says g refl) tt

  pub network-taken : request_parameter_of v q.0 ≡ parameter.Network → (r : Result ℕ Refusal) (o : OctetsParameter)
      → reading_in (λ (n : ℕ). o) r
      ≡ once (seen g.request.network.disposition) (by_version_of v (no_octets_parameter report.Discarded) (octets_read 0 here))
      → IfOk r (λ (n : ℕ). EndsAt s n after) → Taken r (with_network g o)
  network-taken e r o says ends =
      let again = seen g.request.network.disposition in
      let value = by_version_of v (no_octets_parameter report.Discarded) (octets_read 0 here) in
      pair-known parameter.Network e refl again (standing-seen g.request.network.disposition) r (with_network g o)
      (put-reading (with_network g) r o (once again value) says ∙ put-once (with_network g) again value) ends

  pub unsupported-read : request_parameter_of v q.0 ≡ parameter.Unsupported → (r : UnsupportedRead)
      → UnsupportedSpec g.request.unsupported.disposition g.request.errors (unsupported_taken here) (Ok r) → EndsAt s r.next after
      → Taken (Ok r.next) (unsupported_in g r)
  unsupported-read e r says ends =
      pair-known parameter.Unsupported e refl (seen g.request.unsupported.disposition) (standing-seen g.request.unsupported.disposition)
      (Ok r.next) (unsupported_in g r) (says g refl) ends

  pub unsupported-refused : request_parameter_of v q.0 ≡ parameter.Unsupported → (k : Refusal)
      → UnsupportedSpec g.request.unsupported.disposition g.request.errors (unsupported_taken here) (Err k) → (d : RequestState)
      → Taken (Err k) d
  unsupported-refused e k says d =
      pair-known parameter.Unsupported e refl (seen g.request.unsupported.disposition) (standing-seen g.request.unsupported.disposition)
      (Err k) d (says g refl) tt

  pub passed : request_parameter_of v q.0 ≡ parameter.Unknown → (end : ℕ) → EndsAt s end after
      → Taken (Ok end) (request_passing g)
  passed e end ends =
      taken-passed (request_form v) g s l p t q h (standing-is v g here q.0 ∙ ap (standing_for g) e) end ends
