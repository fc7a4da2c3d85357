-- `laws` meets its contract: each law is one of the law files'.
use Rattle.link_key.proofs.Keys.{entry-says, coverage-says, coverage-covered, covers-known-type, covers-listed, same-key-self}
use Rattle.link_key.proofs.Infos.{plain-info}
use Rattle.link_key.proofs.Keys.{same-key-equal, valid-identifier, limits-fit}
use Rattle.link_key.proofs.set.KeySets.{same-keys-self, same-keys-equal, has-none, none_has}
use Rattle.link_key.proofs.set.KeySets.{shares-apart, apart-shares, shares-turned}
use Rattle.link_key.proofs.set.KeySets.{has-append, limits-append, none-twice-append, one-of-a-name, find-found}
use Rattle.link_key.proofs.set.KeySets.{find-own, find_none, none-find, valid-none-twice, valid-each, valid-some, valid-few}
use Rattle.link_key.proofs.set.KeySets.{plain-each, valid-set, set-valid, keys-of-none}
use Rattle.link_key.proofs.set.laws.Goals as goal

pub returns : goal.returns
returns c =
    record {
      entry-says = entry-says;
      coverage-says = coverage-says;
      coverage-covered = coverage-covered;
      covers-known-type = covers-known-type;
      covers-listed = covers-listed;
      same-key-self = same-key-self;
      same-key-equal = same-key-equal;
      same-keys-self = same-keys-self;
      same-keys-equal = same-keys-equal;
      has-none = has-none;
      none_has = none_has;
      shares-apart = shares-apart;
      apart-shares = apart-shares;
      shares-turned = shares-turned;
      has-append = has-append;
      limits-append = limits-append;
      none-twice-append = none-twice-append;
      find-found = find-found;
      find-own = λ ks k m e. find-own m e;
      one-of-a-name = one-of-a-name;
      find_none = find_none;
      none-find = none-find;
      plain-info = plain-info;
      plain-each = plain-each;
      valid-none-twice = valid-none-twice;
      valid-each = valid-each;
      valid-some = valid-some;
      valid-few = valid-few;
      valid-set = valid-set;
      set-valid = set-valid;
      valid-identifier = valid-identifier;
      limits-fit = limits-fit;
      keys-of-none = keys-of-none;
      keys-of-count-0 = λ set e. rw e;
    }
