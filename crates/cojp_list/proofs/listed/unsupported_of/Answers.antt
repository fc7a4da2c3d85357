-- What was gathered in zeros is the list; there is always room for five reports.
use Rattle.std.proofs.Common.{◌≡◌, ◌≤◌, length, sym, ◌∙◌, arith}
use Rattle.cojp.specs.ErrorReports.{error_report_list}
use Rattle.cojp_list.proofs.Listing.{listed-none, listed-bad, listed_kept}
use Rattle.cojp_list.proofs.listed.unsupported_of.Goals as goal

pub returns-then-len-eq0 : goal.returns-then-len-eq0
returns-then-len-eq0 c =
    c.no_list.ensures ∙ listed-none c.args.reports (sym c.len.ensures.exact ∙ c.if-len-eq0.true)

pub returns-in-None : goal.returns-in-None
returns-in-None c =
    let f = c.args.reports in
    let g = c.gather_reports in
    let few : length (error_report_list f) ≤ 5 = omega (arith, c.len.ensures.exact, c.len.ensures.few) in
    listed-bad c.head_laws.ensures f few g.result g.new.dst g.ensures c.in-None.is

pub returns-in-Some : goal.returns-in-Some
returns-in-Some c =
    let f = c.args.reports in
    let g = c.gather_reports in
    let few : length (error_report_list f) ≤ 5 = omega (arith, c.len.ensures.exact, c.len.ensures.few) in
    let some : ¬ (length (error_report_list f) ≡ 0) = λ e. c.if-len-eq0.false (c.len.ensures.exact ∙ e) in
    rw c.list.ensures
    (listed_kept c.head_laws.ensures f few g.result g.new.dst g.ensures some c.in-Some.is)
