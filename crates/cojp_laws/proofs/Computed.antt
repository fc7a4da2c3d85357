-- The witness of 232 bytes, the longest payload read and the written examples are computed.
use mathlib.Core.Path.{refl}
use Rattle.lemmas.specs.lists.Same.{same}
use Rattle.byte_io.specs.BigEndian.{digits, bytes_of}
use Rattle.cbor.specs.Decode.{payload_by, decode_by, heading, argument, next, members, pairs, major_of}
use Rattle.cbor.specs.View.{scalar_at}
use Rattle.cbor.specs.Encode.{info_of, extra_of, shortest}
use Rattle.link_key.specs.Key.{valid_key, has_no_additional_info}
use Rattle.link_key.specs.set.KeySet.{valid_keys, valid_set}
use Rattle.short_address.specs.Address.{is_address}
use Rattle.cojp.specs.Configuration.{configuration_taking}
use Rattle.cojp.specs.ErrorReports.{added}
use Rattle.cojp.specs.Lists.{strings_in, error_reports_in, same_as, kept}
use Rattle.cojp.specs.Octets.{padded}
use Rattle.cojp.specs.Parameter.{later_parameter, parameter_of}
use Rattle.cojp.specs.Request.{owing}
use Rattle.cojp.specs.Walk.{payload_read_by}
use Rattle.cojp.specs.Writing.{request_in_range, request_plan, of_version, configuration_in_range, configuration_plan}
use Rattle.cojp_laws.specs.Largest.{LargestAttained, LongestRead}
use Rattle.cojp_laws.specs.Written.{AllShown, written_examples, published_examples, longest_examples, WrittenExamples}

pub largest-attained : LargestAttained
unfolding configuration_plan configuration_in_range of_version valid_set valid_keys valid_key has_no_additional_info is_address padded
    bytes_of info_of
    extra_of shortest
largest-attained = record { written = refl; no_less = refl }

pub longest-read : LongestRead
unfolding payload_read_by payload_by decode_by heading argument next digits members pairs major_of bytes_of info_of extra_of shortest
    later_parameter parameter_of configuration_taking added strings_in padded
longest-read = record { size = refl; accepted = refl; taken = refl; long = refl }

marked : AllShown written_examples
unfolding request_plan request_in_range owing configuration_plan configuration_in_range of_version is_address bytes_of info_of extra_of
    shortest
marked = (
  (refl, refl),
  ((refl, refl), ((refl, refl), ((refl, refl), ((refl, refl), ((refl, refl), ((refl, refl), ((refl, refl), ((refl, refl), tt)))))))),
)

published : AllShown published_examples
unfolding request_plan request_in_range owing configuration_plan configuration_in_range of_version valid_set valid_keys valid_key
    has_no_additional_info
    padded bytes_of info_of extra_of shortest
    kept same_as same strings_in error_reports_in scalar_at decode_by heading argument next digits major_of
published = (
  (refl, refl),
  (
    (refl, refl),
    (
      (refl, refl),
      (
        (refl, refl),
        (
          (refl, refl),
          (
            (refl, refl),
            (
              (refl, refl),
              (
                (refl, refl),
                (
                  (refl, refl),
                  ((refl, refl), ((refl, refl), ((refl, refl), tt))),
                ),
              ),
            ),
          ),
        ),
      ),
    ),
  ),
)

longest : AllShown longest_examples
unfolding configuration_plan configuration_in_range of_version valid_set valid_keys valid_key padded bytes_of info_of extra_of shortest
longest = ((refl, refl), ((refl, refl), ((refl, refl), tt)))

pub written-examples : WrittenExamples
written-examples = (marked, published, longest)
