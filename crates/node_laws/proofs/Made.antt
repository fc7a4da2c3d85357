-- A node that is made is a fresh one with a role and a network identifier that were judged, or the empty one beside a refusal.
use Rattle.std.specs.Prelude.{Ok}
use Prim.Native.Nat.{ℕ}
use mathlib.Core.Path.{◌≡◌, refl}
use mathlib.Core.Bool.{Bool, true, false, ◌||◌}
use lib.Dec.{eqb}
use Rattle.refusal.specs.RefusalLemmas.{refused-not}
use Rattle.refusal.specs.declared.Refusal.TheVariants.{Range}
use Rattle.lemmas.specs.logic.Tests.{all-four}
use Rattle.cojp.specs.ErrorReports.{valid_error_reports, error_reports_valid}
use Rattle.protocol_version.specs.Version.{allows_additional_info}
use Rattle.protocol_version.specs.declared.Version.{Version}
use Rattle.protocol_version.specs.declared.Version.TheVariants.{Draft, Published}
use Rattle.node_key_sets.specs.Sets as sets
use Rattle.node_key_sets.specs.Sets.{no_sets, plain_in}
use Rattle.node_attempt.specs.Attempt as attempt
use Rattle.node_parameters.specs.Octets.{absent_octets, known_octets, valid_octets, valid_jrc}
use Rattle.node_parameters.specs.declared.octets.HeldOctets.{HeldOctets}
use Rattle.node.specs.Node.{fresh_node, valid_role, made}
use Rattle.node.specs.Range.{version_valid, Valid}
use Rattle.node.specs.declared.node.MakeResult.{MakeResult}
use Rattle.node_laws.specs.Same.{octets_held}
use Rattle.node_laws.proofs.Valid.{valid-by}
use Rattle.node_laws.proofs.Parts.{made-cases}

-- ---- a fresh node is valid
known-valid : (h : HeldOctets) (held : Bool) → h.held ≡ held → valid_octets h ≡ true → valid_octets (known_octets h) ≡ true
known-valid h true e v = rw e (rw e at v)
known-valid h false e v = rw e

none-valid : (border : Bool) → sets.valid border no_sets ≡ true
unfolding sets.valid
none-valid true = refl
none-valid false = refl

none-plain : (version : Version) → (allows_additional_info version || plain_in no_sets) ≡ true
none-plain Draft = refl
none-plain Published = refl

idle-valid : attempt.valid attempt.idle ≡ true
unfolding attempt.valid
idle-valid = refl

form-fits : (version : Version) (role : ℕ) (h : HeldOctets) → version_valid (fresh_node version role h) ≡ true
unfolding version_valid error_reports_valid valid_error_reports
form-fits Draft role h = refl
form-fits Published role h = refl

fresh-valid :
    (version : Version) (role : ℕ) (h : HeldOctets) → valid_role role ≡ true → valid_octets h ≡ true →
    Valid (fresh_node version role (known_octets h))
fresh-valid version role h r v =
    let fresh = fresh_node version role (known_octets h) in
    let others = all-four (valid_role role) (valid_jrc absent_octets) (valid_octets (known_octets h)) (version_valid fresh) in
    valid-by fresh (none-valid (eqb role 1)) (none-plain version) idle-valid refl
    (others r refl (known-valid h _ refl v) (form-fits version role (known_octets h)))

known-held : (h : HeldOctets) (held : Bool) → h.held ≡ held → octets_held (known_octets h) ≡ octets_held h
known-held h true e = rw e
known-held h false e = rw e

-- ---- a node that is made
module _ (version : Version) (role : ℕ) (network : HeldOctets) where
  pub made-valid : Valid (made version role network).node
  made-valid =
      made-cases (λ (m : MakeResult). Valid m.node) version role network (fresh-valid version role network)
      (fresh-valid Draft 0 absent_octets refl refl)

  -- what holds of the fresh one holds where it was accepted
  accepted :
      (P : MakeResult → Type 0) → P (record { verdict = Ok tt; node = fresh_node version role (known_octets network) }) →
      (made version role network).verdict ≡ Ok tt → P (made version role network)
  accepted P p =
      made-cases (λ (m : MakeResult). m.verdict ≡ Ok tt → P m) version role network (λ _ _ e. p) (λ e. refused-not Range e)

  pub made-version : (made version role network).verdict ≡ Ok tt → (made version role network).node.version ≡ version
  made-version = accepted (λ (m : MakeResult). m.node.version ≡ version) refl

  pub made-role : (made version role network).verdict ≡ Ok tt → (made version role network).node.role ≡ role
  made-role = accepted (λ (m : MakeResult). m.node.role ≡ role) refl

  pub made-network :
      (made version role network).verdict ≡ Ok tt → octets_held (made version role network).node.network ≡ octets_held network
  made-network = accepted (λ (m : MakeResult). octets_held m.node.network ≡ octets_held network) (known-held network _ refl)
