use Rattle.std.proofs.Common.{◌≡◌, ◌≤◌, length, sym, ◌∙◌, ap, subst, slice_get, Some, arith}
use Rattle.std.specs.Prelude.{unwrap_or}
use Rattle.std.proofs.lemmas.Option.{slice_get_past, slice_get-get_or}
use Rattle.certificate_checks.proofs.FirstMembers.{by_place_nowhere, by_place_found}
use Rattle.certificate_checks.proofs.first_members.Firsts.first.Goals as goal

pub returns-in_default : goal.returns-in_default
returns-in_default c = sym (by_place_nowhere c.args.self.now.input.now c.args.self.now.firsts.items c.args.name
    c.in_default.ensures)

pub returns-in-None : goal.returns-in-None
returns-in-None c =
    let f = c.in-Some.ensures in
    let fs = c.args.self.now.firsts.items in
    let len = ap length c.deref.ensures.value in
    let past : length fs ≤ c.in-Some.place = omega (arith, len, c.in-None.ensures.lookup.3) in
    sym (by_place_found c.args.self.now.input.now fs c.args.name c.in-Some.place c.len-rows.ensures.population.distinct f.0 f.1
    ∙ ap (λ o. unwrap_or o c.args.name) (slice_get_past fs c.in-Some.place past))

pub returns-in-Some-get : goal.returns-in-Some-get
returns-in-Some-get c =
    let f = c.in-Some.ensures in
    let h = c.in-Some-get.ensures.lookup in
    let fs = c.args.self.now.firsts.items in
    let first = c.in-Some-get.first.now in
    let there = slice_get-get_or c.deref.result.now c.in-Some.place first h.3.0 ∙ ap Some (sym h.1) in
    let at : slice_get fs c.in-Some.place ≡ Some first =
    subst (λ x. slice_get x c.in-Some.place ≡ Some first) c.deref.ensures.value there in
    sym (by_place_found c.args.self.now.input.now fs c.args.name c.in-Some.place c.len-rows.ensures.population.distinct f.0 f.1
    ∙ ap (λ o. unwrap_or o c.args.name) at)
