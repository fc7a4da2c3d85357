-- Each law stands in the file of its topic.
use mathlib.Core.Bool.{false}
use Rattle.cbor.specs.Decode.{heading, decode, members}
use Rattle.cbor.specs.Strict.{head_by}
use Rattle.cbor.proofs.Answers.{tells-number, head-number, scan-number}
use Rattle.cbor.proofs.Fits.{plain_fits}
use Rattle.cbor.proofs.RoundTrip.{read-item, reads, reads-by, read-payload, head_read}
use Rattle.cbor.proofs.Strict.{payload-loose, never-loose}
use Rattle.cbor.proofs.Shortest.{head-shortest, head-flag}
use Rattle.cbor.proofs.Tails.{suffix, decode-tail, members-tail}
use Rattle.cbor.proofs.Views.{tree_plain}
use Rattle.cbor.proofs.laws.Goals as goal

pub returns : goal.returns
returns c = record {
  round_trip = read-item heading reads;
  payload-round-trip = λ b. read-payload (head_by b) (reads-by b);
  item-plain = tree_plain;
  plain_fits = plain_fits;
  item-suffix = λ d s i t e. suffix 1 s (decode d s) i t (decode-tail false d s) e;
  members-suffix = λ d n s is t e. suffix n s (members (decode d) n s) is t (members-tail (decode d) (decode-tail false d) n s) e;
  head_read = head_read;
  head-shortest = head-shortest;
  head-flag = head-flag;
  strict = payload-loose;
  never-loose = never-loose;
  head-number = head-number;
  item-number = tells-number;
  members-number = tells-number;
  scan-number = scan-number;
}
