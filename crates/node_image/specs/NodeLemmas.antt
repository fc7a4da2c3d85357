-- Lemmas: nothing here has to be believed.
-- The node of an image is what is read at the places of its fields.
use Rattle.std.specs.Prelude.{ℕ, List, ◌≡◌, refl, drop, get_or}
use Rattle.std.proofs.Common.{ap, sym}
use Rattle.cojp.specs.declared.error_report.ErrorReports.{ErrorReports}
use Rattle.protocol_version.specs.declared.Version.{Version}
use Rattle.image.specs.Part.{Part, byte, both}
use Rattle.node.specs.declared.node.Node.{Node}
use Rattle.node_attempt.specs.declared.attempt.Attempt.{Attempt}
use Rattle.node_key_sets.specs.declared.sets.KeySets.{KeySets}
use Rattle.node_parameters.specs.declared.address.HeldAddress.{HeldAddress}
use Rattle.node_parameters.specs.declared.blacklist.HeldList.{HeldList}
use Rattle.node_parameters.specs.declared.octets.HeldOctets.{HeldOctets}
use Rattle.node_parameters.specs.declared.rate.HeldRate.{HeldRate}
use Rattle.object_image.specs.ErrorReports.{error_reports_part}
use Rattle.node_image.specs.Attempt.{attempt_part}
use Rattle.node_image.specs.Held.{held_address_part, held_octets_part, held_list_part, held_rate_part}
use Rattle.node_image.specs.Node.{FormFields, HeldFields, sets_part, form_fields, held_fields, node_of, node_to, node_image}
use Rattle.node_image.specs.PlaceLemmas.{first-at, next-got}
use Rattle.node_image.specs.Version.{version_part}

-- ---- what stands after a field
abbrev pub after_list : Part (HeldRate × ErrorReports)
after_list = both held_rate_part error_reports_part

abbrev pub after_version : Part (HeldList × (HeldRate × ErrorReports))
after_version = both held_list_part after_list

abbrev pub after_network : Part (HeldOctets × FormFields)
after_network = both held_octets_part form_fields

abbrev pub after_jrc : Part (HeldOctets × (HeldOctets × FormFields))
after_jrc = both held_octets_part after_network

abbrev pub after_address : Part (HeldOctets × (HeldOctets × (HeldOctets × FormFields)))
after_address = both held_octets_part after_jrc

-- each field read at its place
abbrev pub node_at : List ℕ → Node
node_at s =
    node_of (get_or s 2 0) (attempt_part.get (drop 3 s)) (sets_part.get (drop 29 s)) (
      held_address_part.get (drop 527 s),
      (
        held_octets_part.get (drop 547 s),
        (
          held_octets_part.get (drop 565 s),
          (
            held_octets_part.get (drop 583 s),
            (
              version_part.get (drop 601 s),
              (held_list_part.get (drop 602 s), (held_rate_part.get (drop 858 s), error_reports_part.get (drop 867 s))),
            ),
          ),
        ),
      ),
    )

module _ (s : List ℕ) where
  pub form-got : {v : Version} {l : HeldList} {r : HeldRate} {f : ErrorReports} → v ≡ version_part.get (drop 601 s)
      → l ≡ held_list_part.get (drop 602 s)
      → r ≡ held_rate_part.get (drop 858 s) → f ≡ error_reports_part.get (drop 867 s) → (v, (l, (r, f))) ≡ form_fields.get (drop 601 s)
  form-got e f g h =
      next-got version_part after_version s 601 602 refl e
      (next-got held_list_part after_list s 602 858 refl f (next-got held_rate_part error_reports_part s 858 867 refl g h))

  pub held-got : {a : HeldAddress} {j n p : HeldOctets} {x : FormFields} → a ≡ held_address_part.get (drop 527 s)
      → j ≡ held_octets_part.get (drop 547 s)
      → n ≡ held_octets_part.get (drop 565 s) → p ≡ held_octets_part.get (drop 583 s) → x ≡ form_fields.get (drop 601 s)
      → (a, (j, (n, (p, x)))) ≡ held_fields.get (drop 527 s)
  held-got e f g h i =
      next-got held_address_part after_address s 527 547 refl e
      (next-got held_octets_part after_jrc s 547 565 refl f
      (next-got held_octets_part after_network s 565 583 refl g (next-got held_octets_part form_fields s 583 601 refl h i)))

  pub node-got : {a : Attempt} {k : KeySets} {x : HeldFields} → a ≡ attempt_part.get (drop 3 s) → k ≡ sets_part.get (drop 29 s)
      → x ≡ held_fields.get (drop 527 s) → node_of (get_or s 2 0) a k x ≡ node_image.get s
  node-got e f g =
      ap node_to
      (next-got byte (both attempt_part (both sets_part held_fields)) s 2 3 refl (sym (first-at s 2))
      (next-got attempt_part (both sets_part held_fields) s 3 29 refl e (next-got sets_part held_fields s 29 527 refl f g)))

  pub node_at_lem : node_at s ≡ node_image.get s
  node_at_lem = node-got refl refl (held-got refl refl refl refl (form-got refl refl refl refl))
