-- Each return is a clause of the plan; at the last the tags were compared, and the text leaves or not.
use Rattle.aes_ccm.proofs.Done as done
use Rattle.aes_ccm.proofs.unseal.Goals as goal

pub returns-then-associated-gt64 : goal.returns-then-associated-gt64
returns-then-associated-gt64 c =
    done.unseal-data-long c.args.key c.args.nonce c.args.associated.now c.args.sealed.now c.args.dst.now c.if-associated-gt64.true

pub returns-then-sealed-lt8 : goal.returns-then-sealed-lt8
returns-then-sealed-lt8 c =
    done.unseal-short c.args.key c.args.nonce c.args.associated.now c.args.sealed.now c.args.dst.now
    c.if-associated-gt64.false c.if-sealed-lt8.true

pub returns-then-sealed-gt264 : goal.returns-then-sealed-gt264
returns-then-sealed-gt264 c =
    done.unseal-long c.args.key c.args.nonce c.args.associated.now c.args.sealed.now c.args.dst.now c.if-associated-gt64.false
    c.if-sealed-lt8.false c.if-sealed-gt264.true

pub returns-then-dst-n : goal.returns-then-dst-n
returns-then-dst-n c =
    done.unseal-no-room c.args.key c.args.nonce c.args.associated.now c.args.sealed.now c.args.dst.now
    c.if-associated-gt64.false c.if-sealed-lt8.false c.if-sealed-gt264.false c.if-dst-n.true

pub returns : goal.returns
returns c =
    done.unseal-done c.args.key c.args.nonce c.args.associated.now c.args.sealed.now c.args.dst.now
    c.if-associated-gt64.false c.if-sealed-lt8.false c.if-sealed-gt264.false c.new-session.result.keys c.crypt_into.new.dst
    c.tag_of-tag.result _ c.same_tag-right.result c.release.result
    c.release.new.dst c.if-dst-n.false c.new-session.ensures.keys (rw c.new-session.ensures.nonce at c.crypt_into.ensures)
    (rw c.new-session.ensures.nonce at c.tag_of-tag.ensures) c.same_tag-right.ensures c.release.ensures
