-- Each return is a clause of the plan; at the last the text and the tag stand one after the other.
use Rattle.aes_ccm.proofs.Done as done
use Rattle.aes_ccm.proofs.seal.Goals as goal

pub returns-then-associated-gt64 : goal.returns-then-associated-gt64
returns-then-associated-gt64 c =
    done.seal-data-long c.args.key c.args.nonce c.args.associated.now c.args.text.now c.args.dst.now c.if-associated-gt64.true

pub returns-then-text-gt256 : goal.returns-then-text-gt256
returns-then-text-gt256 c =
    done.seal-text-long c.args.key c.args.nonce c.args.associated.now c.args.text.now c.args.dst.now
    c.if-associated-gt64.false c.if-text-gt256.true

pub returns-then-dst-text : goal.returns-then-dst-text
returns-then-dst-text c =
    done.seal-no-room c.args.key c.args.nonce c.args.associated.now c.args.text.now c.args.dst.now c.if-associated-gt64.false
    c.if-text-gt256.false c.if-dst-text.true

pub returns : goal.returns
returns c =
    done.seal-done c.args.key c.args.nonce c.args.associated.now c.args.text.now c.args.dst.now
    c.new-session.result.keys c.crypt_into.new.dst c.tag_of-tag.result c.copy_from_slice.new.self
    c.if-associated-gt64.false c.if-text-gt256.false c.if-dst-text.false c.new-session.ensures.keys
    (rw c.new-session.ensures.nonce at c.crypt_into.ensures) (rw c.new-session.ensures.nonce at c.tag_of-tag.ensures)
    c.copy_from_slice.ensures.after
