-- The images are lawful by their tables, since their parts are.
use mathlib.Core.Path.{refl}
use Rattle.image.specs.CodecLaws.{byte-lawful, number-lawful, both-lawful, viewed-lawful, headed-lawful}
use Rattle.image.specs.Part.{RoundTrips, number, both, viewed}
use Rattle.key_image.specs.Key.{key_part, counted_set_part}
use Rattle.key_image.specs.Laws.{KeyImages}
use Rattle.object_image.specs.Codes.{bool_part}
use Rattle.object_image.specs.Lists.{list_part}
use Rattle.object_image.specs.Octets.{octets_part}
use Rattle.object_image.specs.Laws.{ObjectImages}
use Rattle.node_image.proofs.Attempts.{attempt-lawful}
use Rattle.node_image.proofs.Versions.{version-lawful}
use Rattle.node_image.specs.Answers.{dispositions_fields, dispositions_to, dispositions_from, dispositions_image, frame_key_image}
use Rattle.node_image.specs.Held.{held_octets_to, held_octets_from, held_octets_part, held_address_fields, held_address_to, held_address_from}
use Rattle.node_image.specs.Held.{held_address_part, held_list_to, held_list_from, held_list_part, held_rate_to, held_rate_from, held_rate_part}
use Rattle.node_image.specs.Laws.{NodeImages}
use Rattle.node_image.specs.Node.{sets_to, sets_from, sets_part, form_fields, held_fields, node_fields, node_to, node_from, node_image}

module _ (k : KeyImages) (o : ObjectImages) where
  -- ---- what a node holds
  octets-lawful : RoundTrips held_octets_part
  octets-lawful =
      viewed-lawful (both bool_part octets_part) held_octets_to held_octets_from (λ h. refl) (λ x h. refl) (both-lawful _ _ o.bool o.octets)

  address-lawful : RoundTrips held_address_part
  address-lawful =
      viewed-lawful held_address_fields held_address_to held_address_from (λ h. refl) (λ x h. refl)
      (both-lawful _ _ o.bool (both-lawful _ _ o.address (number-lawful 8)))

  list_lawful : RoundTrips held_list_part
  list_lawful =
      viewed-lawful (both bool_part list_part) held_list_to held_list_from (λ h. refl) (λ x h. refl) (both-lawful _ _ o.bool o.list)

  rate-lawful : RoundTrips held_rate_part
  rate-lawful =
      viewed-lawful (both bool_part (number 8)) held_rate_to held_rate_from (λ h. refl) (λ x h. refl)
      (both-lawful _ _ o.bool (number-lawful 8))

  sets-lawful : RoundTrips sets_part
  sets-lawful =
      viewed-lawful (both counted_set_part counted_set_part) sets_to sets_from (λ s. refl) (λ x h. refl)
      (both-lawful _ _ k.counted-set k.counted-set)

  -- ---- the node
  form-lawful : RoundTrips form_fields
  form-lawful = both-lawful _ _ version-lawful (both-lawful _ _ list_lawful (both-lawful _ _ rate-lawful o.faults))

  held-lawful : RoundTrips held_fields
  held-lawful =
      both-lawful _ _ address-lawful
      (both-lawful _ _ octets-lawful (both-lawful _ _ octets-lawful (both-lawful _ _ octets-lawful form-lawful)))

  node-lawful : RoundTrips node_image
  node-lawful =
      headed-lawful 0x4e (viewed node_fields node_to node_from)
      (viewed-lawful node_fields node_to node_from (λ n. refl) (λ x h. refl)
      (both-lawful _ _ byte-lawful (both-lawful _ _ attempt-lawful (both-lawful _ _ sets-lawful held-lawful))))

  -- ---- answers
  reports-lawful : RoundTrips dispositions_image
  reports-lawful =
      headed-lawful 0x52 (viewed dispositions_fields dispositions_to dispositions_from)
      (viewed-lawful dispositions_fields dispositions_to dispositions_from (λ r. refl) (λ x h. refl)
      (both-lawful _ _ o.report (both-lawful _ _ o.report (both-lawful _ _ o.report (both-lawful _ _ o.report
      (both-lawful _ _ o.report (both-lawful _ _ o.report (both-lawful _ _ o.report (number-lawful 8)))))))))

  frame-key-lawful : RoundTrips frame_key_image
  frame-key-lawful = headed-lawful 0x4b (both key_part (number 4)) (both-lawful _ _ k.key (number-lawful 4))

  pub node-images : NodeImages
  node-images =
      record {
        node-size = refl;
        node = node-lawful;
        reports-size = refl;
        reports = reports-lawful;
        frame-key-size = refl;
        frame-key = frame-key-lawful;
      }
