-- What was gathered in zeros is the list; of no member there is none.
use Rattle.std.proofs.Common.{◌≡◌, ℕ, List, drop, replicate, refl, ap, sym, ◌∙◌}
use Rattle.cojp.specs.Bytes.{members_at}
use Rattle.cojp.specs.Lists.{fitting, error_reports_in, at_least_one, list_answer}
use Rattle.cojp_list.proofs.Gathering.{list-read}
use Rattle.cojp_list.proofs.Reports.{some_more}
use Rattle.cojp_list.proofs.error_entries.read_entries.Goals as goal

-- one member at least, so the pattern is that of reports
some-reports : (n : ℕ) (l : List ℕ) → ¬ (n ≡ 0)
    → list_answer (fitting 253 (error_reports_in (members_at n l)))
    ≡ list_answer (fitting 253 (at_least_one error_reports_in (members_at n l)))
some-reports n l h = ap (λ q. list_answer (fitting 253 q)) (sym (some_more error_reports_in n l h))

pub returns : goal.returns
returns c =
    let a = c.args in
    let g = c.gather_entries-gathered in
    c.list_read.ensures
    ∙ list-read (error_reports_in (members_at a.count (drop a.from a.s.now))) (replicate 253 0) refl g.result g.new.dst g.ensures
    ∙ some-reports a.count (drop a.from a.s.now) c.if-count-eq0.false
