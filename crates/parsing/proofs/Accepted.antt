-- A table takes just the language that it takes.
use Rattle.std.proofs.Common.{◌≡◌, true, List, [], refl, sym, ap, ◌∙◌, subst, append-nil}
use Rattle.parsing.specs.Tables.{LocatedToken, lookaheads, Table, passes, run}
use Rattle.parsing.specs.Languages.{Accepts, AllAre, IsComplete, IsExact}
use Rattle.parsing.specs.PredictiveLaws.{StopsAtFirstFault, AsksForMore}
use Rattle.parsing.proofs.Leading.{Leads}
use Rattle.parsing.proofs.Running.{Reaches, reaches_alike, reaches_run, passed}
use Rattle.parsing.proofs.Faults.{stops_at_first_fault, asks_for_more}

-- whether tokens pass hangs on their lookaheads
pub passes_alike : {S W K : Type 0} (table : Table S W K) (start : List S) (s r : List (LocatedToken W))
    → lookaheads s ≡ lookaheads r → run table start s ≡ passes [] → run table start r ≡ passes []
passes_alike {S} {W} table start s r e h =
    let p = passed table s start [] h in
    let P : List (LocatedToken W) → Type 0 = λ l. Reaches table start l [] in
    let q = reaches_alike table s r start [] e (subst P (sym (append-nil p.taken) ∙ sym p.text) p.reached) in
    ap (run table start) (sym (append-nil r)) ∙ reaches_run table r start [] [] q

-- a table takes just a language where its lookaheads lead from the start to nothing more
pub exact_leads : {S W K : Type 0} (table : Table S W K) (sort : S → Type 0) (start : List S) (L : List W → Type 0)
    → IsComplete table sort → AllAre sort start
    → ((ws : List W) → L ws → Leads table start ws []) → ((ws : List W) → Leads table start ws [] → L ws)
    → IsExact table sort start L
exact_leads {S} {W} table sort start L c a passing sound = record {
  complete = c;
  starts = a;
  passing = λ s h. ap (run table start) (sym (append-nil s)) ∙ reaches_run table s start [] []
      (passing (lookaheads s) h);
  sound = λ s e. let p = passed table s start [] e in
      let P : List (LocatedToken W) → Type 0 = λ l. Reaches table start l [] in
      sound (lookaheads s) (subst P (sym (append-nil p.taken) ∙ sym p.text) p.reached);
}

pub accepts_exactly : {S W K : Type 0} (table : Table S W K) (sort : S → Type 0) (start : List S)
    → IsComplete table sort → AllAre sort start → IsExact table sort start (Accepts table start)
accepts_exactly table sort start c a = record {
  complete = c;
  starts = a;
  passing = λ s h. passes_alike table start h.0 s h.1 h.2;
  sound = λ s h. (s, refl, h);
}

pub stops_at_first : (S W K : Type 0) → StopsAtFirstFault S W K
stops_at_first S W K table sort start c a s place =
    let P : S → Type 0 = λ y. sort y ≡ true in
    stops_at_first_fault table P start (Accepts table start) (accepts_exactly table P start c a) s place

pub asks_before_end : (S W K : Type 0) → AsksForMore S W K
asks_before_end S W K table sort start c a s =
    let P : S → Type 0 = λ y. sort y ≡ true in
    asks_for_more table P start (Accepts table start) (accepts_exactly table P start c a) s
