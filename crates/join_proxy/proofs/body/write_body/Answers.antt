-- The number is put first, and sealing fills what is after it.
use Rattle.std.proofs.Common.{◌≡◌, ap, List, ◌++◌, ℕ, length, drop, rules}
use Rattle.join_proxy.proofs.Bodies.{written-body}
use Rattle.join_proxy.proofs.body.write_body.Goals as goal

pub returns : goal.returns
returns c =
    let lt : length c.args.text ≡ 19 = search rules in
    let ln : length c.args.number ≡ 4 = search rules in
    let d = c.args.dst.now in
    let front = c.copy_from_slice.ensures.after in
    written-body c.laws.ensures c.args.key c.args.text c.seal.new.dst c.seal.result c.args.number c.nonce.result d
    (c.copy_from_slice.new.self ++ drop 4 d) lt ln c.nonce.ensures c.requires (ap (λ (l : List ℕ). l ++ drop 4 d) front) c.seal.ensures
