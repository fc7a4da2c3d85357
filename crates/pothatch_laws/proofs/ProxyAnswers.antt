-- Each contract of a join proxy's call says by equations what it answers and leaves.
use Prim.Native.Nat.{ℕ}
use mathlib.Core.Path.{refl}
use mathlib.Core.List.{List, []}
use lib.ListN.{length, replicate}
use Rattle.refusal.specs.Verdict.{verdict_number}
use Rattle.image.specs.Effects.{on_accept, result_bytes}
use Rattle.image.specs.Part.{AllBytes}
use Rattle.aes_ccm.specs.Plan as plan
use Rattle.aes_ccm.specs.Plan.{answer, number_in}
use Rattle.cipher_calls.specs.Cipher.{plan_verdict}
use Rattle.join_proxy.specs.Issuing.{after_issue}
use Rattle.join_proxy.specs.Judging.{judge_body}
use Rattle.join_proxy.specs.Keys.{fresh, set_key}
use Rattle.state_image.specs.Proxy.{proxy_image, pledge_image}
use Rattle.proxy_calls.specs.Proxy.{make_verdict, key_verdict, issue_of, judge_verdict}
use Rattle.pothatch_laws.specs.Proxy.{OwnCall, setting, issuing, judging, Call, making, calling, proxy_output, OwnDid, Did}
use Rattle.pothatch_laws.proofs.Running.{Answer}

-- keys of bytes
abbrev CanOwn : OwnCall → Type 0
CanOwn (setting key) = AllBytes key
CanOwn (issuing interface port token d) = Unit {0}
CanOwn (judging body) = Unit {0}

abbrev pub Can : Call → Type 0
Can (making key) = AllBytes key
Can (calling c) = CanOwn c

own : (c : OwnCall) (s : List ℕ) → CanOwn c → Answer (OwnDid c s)
own (setting key) s can =
    let v = key_verdict s key in
    record {
      answer = proxy_output (verdict_number v) [] key;
      after = on_accept v s (proxy_image.put (set_key (proxy_image.get s) key).proxy);
      did = record { bytes = can; sets = record { number = refl; proxy = refl }; struct = refl; lent = refl };
    }
own (issuing interface port token d) s can =
    let q = issue_of s interface port token (length d) in
    record {
      answer = proxy_output (number_in (answer q)) [] (plan.after q d);
      after = on_accept (plan_verdict q) s (proxy_image.put (after_issue q (proxy_image.get s)));
      did = record { issues = record { number = refl; proxy = refl; dst = refl }; struct = refl };
    }
own (judging body) s can =
    let w : List ℕ = replicate 21 0 in
    let v = judge_verdict s body w in
    record {
      answer = proxy_output (verdict_number v) (result_bytes 21 v (pledge_image.put (judge_body (proxy_image.get s) body).pledge) w) body;
      after = s;
      did = record { before = w; fits = refl; judges = record { number = refl; pledge = refl }; image = refl; lent = refl };
    }

pub one : (c : Call) (s : List ℕ) → Can c → Answer (Did c s)
one (making key) s can =
    let v = make_verdict key s in
    record {
      answer = proxy_output (verdict_number v) [] key;
      after = result_bytes 26 v (proxy_image.put (fresh key)) s;
      did = record { bytes = can; makes = record { number = refl; proxy = refl }; struct = refl; lent = refl };
    }
one (calling c) s can = own c s can
