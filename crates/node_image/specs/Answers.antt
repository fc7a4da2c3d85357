-- What node calls answer with. Reports, 17 bytes: kind R, layout, reports on key set, short address, JRC address, network identifier,
-- prefix, blacklist and join rate 1 each, labels passed over 8. A frame's key, 33 bytes: kind K, layout, key 27, frame counter 4.
use Rattle.std.specs.Prelude.{ℕ}
use Rattle.image.specs.Part.{Part, number, both, viewed, headed}
use Rattle.cojp.specs.declared.disposition.Disposition.{Disposition}
use Rattle.key_image.specs.Key.{key_part}
use Rattle.link_key.specs.declared.Key.{Key}
use Rattle.node_parameters.specs.declared.dispositions.Dispositions.{Dispositions}
use Rattle.object_image.specs.Codes.{disposition_part}

abbrev pub DispositionsFields : Type 0
DispositionsFields = Disposition × (Disposition × (Disposition × (Disposition × (Disposition × (Disposition × (Disposition × ℕ))))))

abbrev pub dispositions_fields : Part DispositionsFields
dispositions_fields =
    both disposition_part (both disposition_part
    (both disposition_part (both disposition_part (both disposition_part (both disposition_part (both disposition_part (number 8)))))))

abbrev pub dispositions_to : DispositionsFields → Dispositions
dispositions_to x = record {
  keys = x.0;
  address = x.1.0;
  jrc = x.1.1.0;
  network = x.1.1.1.0;
  prefix = x.1.1.1.1.0;
  blacklist = x.1.1.1.1.1.0;
  rate = x.1.1.1.1.1.1.0;
  unknown = x.1.1.1.1.1.1.1;
}

abbrev pub dispositions_from : Dispositions → DispositionsFields
dispositions_from r = (r.keys, (r.address, (r.jrc, (r.network, (r.prefix, (r.blacklist, (r.rate, r.unknown)))))))

abbrev pub dispositions_image : Part Dispositions
dispositions_image = headed 0x52 (viewed dispositions_fields dispositions_to dispositions_from)

-- the key and the counter that a frame is sent with
abbrev pub frame_key_image : Part (Key × ℕ)
frame_key_image = headed 0x4b (both key_part (number 4))
