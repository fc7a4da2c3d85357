-- `laws` meets its contract: each is among the laws of keys.
use Rattle.link_key.proofs.Infos.{plain-info}
use Rattle.link_key.proofs.Keys.{same-key-self, same-key-equal, same-secret-says, same-secret-made}
use Rattle.link_key.proofs.laws.Goals as goal

pub returns : goal.returns
returns c = record {
  same-key-self = same-key-self;
  same-key-equal = same-key-equal;
  same-secret-says = same-secret-says;
  same-secret-made = same-secret-made;
  plain-info = plain-info;
}
