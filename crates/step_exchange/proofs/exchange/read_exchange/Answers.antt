use Rattle.std.proofs.Common.{◌≡◌, ◌+◌, length, List, sym, ◌∙◌, subst, arith}
use Rattle.std.proofs.lemmas.Result.{err_from_is_err_and}
use Rattle.step_structures.specs.Trees.{Tree}
use Rattle.step_structures.specs.Texts.{ReadsAs}
use Rattle.step_exchange.specs.Sections.{file_of}
use Rattle.step_exchange.proofs.Outcome.{found_all, fault_all}
use Rattle.step_exchange.proofs.Whole.{header_stops_text, data_stops_text, places_of, text_reads, trees_match}
use Rattle.step_exchange.proofs.exchange.read_exchange.Goals as goal

pub returns-in_err-first-clause-all : goal.returns-in_err-first-clause-all
returns-in_err-first-clause-all c = λ header_bytes file h.
    let p = err_from_is_err_and c.from_residual.result c.from_residual.ensures.1 in
    rw (p.1, p.2) (fault_all c.args.text.now c.in_err-first.field-0.0 (header_stops_text c.args.text.now
    c.in_err-first.field-0.0 c.reserve.new.reader (c.reserve.ensures ∙ c.new-reader.ensures) c.in_err-first.ensures)
    header_bytes file h)

pub returns-in_err-first-clause-fault : goal.returns-in_err-first-clause-fault
returns-in_err-first-clause-fault c =
    let p = err_from_is_err_and c.from_residual.result c.from_residual.ensures.1 in
    rw (p.1, p.2) (header_stops_text c.args.text.now c.in_err-first.field-0.0 c.reserve.new.reader
    (c.reserve.ensures ∙ c.new-reader.ensures) c.in_err-first.ensures)

pub returns-in_err-sections-clause-all : goal.returns-in_err-sections-clause-all
returns-in_err-sections-clause-all c = λ header_bytes file h.
    let p = err_from_is_err_and c.from_residual-in_err-sections.result c.from_residual-in_err-sections.ensures.1 in
    rw (p.1, p.2) (fault_all c.args.text.now c.in_err-sections.field-0.0 (data_stops_text c.args.text.now
    c.in_err-sections.field-0.0 c.reserve.new.reader c.header.new.reader c.in_ok-first.first
    (c.reserve.ensures ∙ c.new-reader.ensures) c.in_ok-first.ensures c.in_err-sections.ensures) header_bytes file h)

pub returns-in_err-sections-clause-fault : goal.returns-in_err-sections-clause-fault
returns-in_err-sections-clause-fault c =
    let p = err_from_is_err_and c.from_residual-in_err-sections.result c.from_residual-in_err-sections.ensures.1 in
    rw (p.1, p.2) (data_stops_text c.args.text.now c.in_err-sections.field-0.0 c.reserve.new.reader
    c.header.new.reader c.in_ok-first.first (c.reserve.ensures ∙ c.new-reader.ensures) c.in_ok-first.ensures
    c.in_err-sections.ensures)

pub split_at-requires : goal.split_at-requires
split_at-requires c = omega (
  arith,
  c.place-end.ensures,
  (places_of c.args.text.now c.reserve.new.reader c.header.new.reader c.in_ok-first.first
      (c.reserve.ensures ∙ c.new-reader.ensures) c.in_ok-first.ensures).1,
)

pub split_at-requires-2 : goal.split_at-requires-2
split_at-requires-2 c = omega (
  arith,
  c.split_at.ensures.front_len,
  c.place-end.ensures,
  (places_of c.args.text.now c.reserve.new.reader c.header.new.reader c.in_ok-first.first
      (c.reserve.ensures ∙ c.new-reader.ensures) c.in_ok-first.ensures).0,
)

pub invariant_of-result : goal.invariant_of-result
invariant_of-result c =
    let P : List Tree → Type 0 = λ l. ReadsAs c.args.text.now c.split_at-2.result.1.now (file_of c.kept_len-header_len.result l c.in_ok-sections.names
    c.in_ok-sections.sections.items) in
    let found = subst P (sym c.finish.ensures) (text_reads c.args.text.now c.split_at.result.0.now c.split_at-2.result.1.now c.reserve.new.reader
    c.header.new.reader c.data.new.reader c.in_ok-first.first c.place-end.result c.kept_len-header_len.result
    c.in_ok-sections.sections.items c.in_ok-sections.names (c.reserve.ensures ∙ c.new-reader.ensures)
    c.in_ok-first.ensures c.kept_len-header_len.ensures c.in_ok-sections.ensures c.place-end.ensures
    c.split_at.ensures.front c.split_at-2.ensures.back) in
    let Q : List Tree → Type 0 = λ l. length l ≡ c.kept_len-header_len.result + length c.in_ok-sections.names in
    let matched = subst Q (sym c.finish.ensures) (trees_match c.header.new.reader c.data.new.reader
    c.kept_len-header_len.result c.in_ok-sections.sections.items c.in_ok-sections.names
    c.kept_len-header_len.ensures c.in_ok-sections.ensures) in
    record {
      read = ∣ (c.args.text.now, found) ∣₁;
      matched = ∣ matched ∣₁;
      counted = ∣ c.in_ok-sections.ensures.counts ∣₁;
    }

pub returns-clause-found : goal.returns-clause-found
returns-clause-found c =
    let P : List Tree → Type 0 = λ l. ReadsAs c.args.text.now c.split_at-2.result.1.now (file_of c.kept_len-header_len.result l c.in_ok-sections.names
    c.in_ok-sections.sections.items) in
    let found = subst P (sym c.finish.ensures) (text_reads c.args.text.now c.split_at.result.0.now c.split_at-2.result.1.now c.reserve.new.reader
    c.header.new.reader c.data.new.reader c.in_ok-first.first c.place-end.result c.kept_len-header_len.result
    c.in_ok-sections.sections.items c.in_ok-sections.names (c.reserve.ensures ∙ c.new-reader.ensures)
    c.in_ok-first.ensures c.kept_len-header_len.ensures c.in_ok-sections.ensures c.place-end.ensures
    c.split_at.ensures.front c.split_at-2.ensures.back) in
    found

pub returns-clause-all : goal.returns-clause-all
returns-clause-all c = λ header_bytes file h.
    let P : List Tree → Type 0 = λ l. ReadsAs c.args.text.now c.split_at-2.result.1.now (file_of c.kept_len-header_len.result l c.in_ok-sections.names
    c.in_ok-sections.sections.items) in
    let found = subst P (sym c.finish.ensures) (text_reads c.args.text.now c.split_at.result.0.now c.split_at-2.result.1.now c.reserve.new.reader
    c.header.new.reader c.data.new.reader c.in_ok-first.first c.place-end.result c.kept_len-header_len.result
    c.in_ok-sections.sections.items c.in_ok-sections.names (c.reserve.ensures ∙ c.new-reader.ensures)
    c.in_ok-first.ensures c.kept_len-header_len.ensures c.in_ok-sections.ensures c.place-end.ensures
    c.split_at.ensures.front c.split_at-2.ensures.back) in
    found_all c.args.text.now c.split_at-2.result.1.now (file_of c.kept_len-header_len.result c.finish.result
    c.in_ok-sections.names c.in_ok-sections.sections.items) found header_bytes file h
