-- Rules: what the table lets pass of them fits.
use Rattle.std.proofs.Common.{◌≡◌, ℕ, Bool, true, false, if◌then◌else◌, List, [], ◌∷◌, ◌++◌, Option, None, Some, map, Ok, Err, refl, sym, ap, ◌∙◌, subst, append_assoc}
use Rattle.std.proofs.lemmas.Slice.Eq.{bytes_eq-Decides}
use Rattle.parsing.proofs.Lists.{all_append}
use Rattle.express_lexer.specs.declared.marks.Mark.TheVariants as marks
use Rattle.express_syntax.specs.declared.keyword.Keyword.{Keyword}
use Rattle.express_syntax.specs.declared.keyword.Keyword.TheVariants as keywords
use Rattle.express_syntax.specs.Keywords.{keyword_text}
use Rattle.express_syntax.specs.Words.{Word, keyword, name, integer, real, string, encoded, binary, mark}
use Rattle.express_syntax.specs.Runs as runs
use Rattle.express_syntax.specs.Runs.{Run, word, words_of_run, FitsRun, IsSome}
use Rattle.express_syntax.specs.Schemas.{Rule}
use Rattle.express_syntax.specs.WrittenSchemas.{concatenated, words_of_label, words_of_body, words_of_rule}
use Rattle.express_syntax.specs.Profile.{Begins}
use Rattle.express_syntax.specs.Texts.{token}
use Rattle.express_syntax.specs.steps.Predict.{in_rule, Just, Running, Rules, Labelled, TypeEnd, Next, same_keyword, then_rules, next_running}
use Rattle.express_syntax.proofs.Decide.{keyword_is}
use Rattle.express_syntax.proofs.SoundTakes.{AllTake, OfRun, OfRules, IsInner, Answer, Production, takes_one, take_apart}
use Rattle.express_syntax.proofs.SoundRuns.{body_of, running_production}

spread_rule : (l b j t : List Word) (m : Word) → l ++ (b ++ m ∷ (j ++ t)) ≡ (((l ++ b) ++ m ∷ []) ++ j) ++ t
spread_rule l b j t m = simp append_assoc

-- a rule and others
one_rule : (levels : ℕ) (end : Keyword) (label : Option (List ℕ)) (r : Run) → FitsRun levels runs.in_rule 0 r → IsSome r
    → (label ≡ None → Begins end (words_of_run r)) → (v : List Word) → OfRules levels end v → (ws : List Word)
    → ws ≡ words_of_label label ++ (words_of_run r ++ mark marks.Semicolon ∷ v) → OfRules levels end ws
one_rule levels end label r f s begins v h ws e =
    let b = body_of levels r f s in
    let x : Rule = record { label = label; body = b.0 } in (
      x ∷ h.0,
      ((b.1, λ k. subst (Begins end) (sym b.2) (begins k)), h.1),
      e ∙ ap (λ l. words_of_label label ++ (l ++ mark marks.Semicolon ∷ v)) (sym b.2)
          ∙ ap (λ l. words_of_label label ++ (words_of_body b.0 ++ mark marks.Semicolon ∷ l)) h.2
          ∙ spread_rule (words_of_label label) (words_of_body b.0) (concatenated (map words_of_rule h.0))
          (keyword end ∷ mark marks.Semicolon ∷ []) (mark marks.Semicolon),
    )

-- a run, and rules behind it
record RunThen (levels : ℕ) (end : Keyword) (some : Bool) (ws : List Word) : Type 0 where
  run : Run
  rest : List Word
  fits : FitsRun levels runs.in_rule 0 run
  stands : some ≡ false → IsSome run
  rules : OfRules levels end rest
  spelled : ws ≡ words_of_run run ++ mark marks.Semicolon ∷ rest

run_then : (levels : ℕ) (end : Keyword) (some : Bool) (u v ws : List Word) → OfRun levels in_rule 0 [] some u
    → OfRules levels end v → ws ≡ u ++ v → RunThen levels end some ws
run_then levels end some u v ws r h e = record {
  run = r.0;
  rest = v;
  fits = r.1;
  stands = r.2;
  rules = h;
  spelled = e ∙ ap (λ l. l ++ v) r.3 ∙ append_assoc (words_of_run r.0) (mark marks.Semicolon ∷ []) v;
}

run_behind : (levels : ℕ) (end : Keyword) (some : Bool) (ws : List Word) → AllTake levels (Running in_rule 0 [] some
    ∷ Rules end ∷ []) ws → RunThen levels end some ws
run_behind levels end some ws h = run_then levels end some h.0 h.1 ws h.2 (takes_one levels (Rules end) h.1 h.3) h.4

-- what the words of a run begin with
begins_so : (end : Keyword) (w : Word) (u l : List Word) (m : Word) → ((x : List Word) → Begins end (w ∷ x)) → w ∷ u ≡ l
    ++ m ∷ [] → Begins end l
begins_so end w u [] m f e = tt
begins_so end w u (x ∷ l) m f e = let P : Word → Type 0 = λ y. Begins end (y ∷ l) in subst P (let d : w ≡ x = cc in d)
    (f l)

begins_named : (end : Keyword) (n : List ℕ) (w : Word) (u l : List Word) (m : Word)
    → ((x : List Word) → Begins end (name n ∷ w ∷ x)) → w ∷ u ≡ l ++ m ∷ [] → Begins end (name n ∷ l)
begins_named end n w u [] m f e = tt
begins_named end n w u (x ∷ l) m f e = let P : Word → Type 0 = λ y. Begins end (name n ∷ y ∷ l) in
    subst P (let d : w ≡ x = cc in d) (f l)

rules_from : (levels : ℕ) (end : Keyword) (w : Word) (v : Next) → ((x : List Word) → Begins end (w ∷ x))
    → Answer levels (Running in_rule 0 [] false) w v → Answer levels (Rules end) w (then_rules end v)
unfolding run_then
rules_from levels end w (Err k) begins f = tt
rules_from levels end w (Ok zs) begins f = (
  all_append IsInner zs (Rules end ∷ []) f.0 (tt, tt),
  λ ws h.
      let p = take_apart levels zs (Rules end ∷ []) ws h in
      let r : OfRun levels in_rule 0 [] false (w ∷ p.0) = f.1 p.0 p.2 in
      let t = run_then levels end false (w ∷ p.0) p.1 (w ∷ ws) r (takes_one levels (Rules end) p.1 p.3)
      (ap (λ l. w ∷ l) p.4) in
      one_rule levels end None r.0 r.1 (r.2 refl) (λ k. begins_so end w p.0 (words_of_run r.0) (mark marks.Semicolon)
      begins r.3) p.1 (takes_one levels (Rules end) p.1 p.3) (w ∷ ws) t.spelled,
)

rules_keyword : (levels : ℕ) (end k : Keyword) → Production levels (Rules end) (keyword k)
rules_keyword levels end k = by (same_keyword k end) refl
  where
    differs : same_keyword k end ≡ false → k ≡ end → ⊥
    differs e d = let s : same_keyword k end ≡ true = (bytes_eq-Decides (keyword_text k) (keyword_text end)).1
        (ap keyword_text d) in cc

    by : (b : Bool) → same_keyword k end ≡ b → Answer levels (Rules end) (keyword k)
        (if b then Ok (Just marks.Semicolon ∷ []) else Ok (Running in_rule 0 [] true ∷ Rules end ∷ []))
    by true e = (
      (tt, tt),
      λ ws h. (
        [],
        tt,
        (λ i. keyword (keyword_is k end e i)
            ∷ takes_one levels (Just marks.Semicolon) ws h i),
      ),
    )
    by false e = (
      (tt, (tt, tt)),
      λ ws h.
          let t = run_behind levels end true ws h in
          one_rule levels end None (word (keyword k) t.run) (refl, refl, t.fits) tt (λ d. differs e) t.rest t.rules
          (keyword k ∷ ws) (ap (λ l. keyword k ∷ l) t.spelled),
    )

pub rules_production : (levels : ℕ) (end : Keyword) (w : Word) → Production levels (Rules end) w
rules_production levels end (keyword k) = rules_keyword levels end k
rules_production levels end (name n) = ((tt, tt), λ ws h. (takes_one levels (Labelled end) ws h) n)
rules_production levels end (integer t) = rules_from levels end (integer t)
    (next_running levels in_rule 0 [] false (token (integer t))) (λ x. tt) (running_production levels in_rule 0 [] false
    (integer t))
rules_production levels end (real t) = rules_from levels end (real t)
    (next_running levels in_rule 0 [] false (token (real t))) (λ x. tt) (running_production levels in_rule 0 [] false
    (real t))
rules_production levels end (string t) = rules_from levels end (string t)
    (next_running levels in_rule 0 [] false (token (string t))) (λ x. tt) (running_production levels in_rule 0 [] false
    (string t))
rules_production levels end (encoded t) = rules_from levels end (encoded t)
    (next_running levels in_rule 0 [] false (token (encoded t))) (λ x. tt) (running_production levels in_rule 0 [] false
    (encoded t))
rules_production levels end (binary t) = rules_from levels end (binary t)
    (next_running levels in_rule 0 [] false (token (binary t))) (λ x. tt) (running_production levels in_rule 0 [] false
    (binary t))
rules_production levels end (mark m) = rules_from levels end (mark m)
    (next_running levels in_rule 0 [] false (token (mark m))) (λ x. tt) (running_production levels in_rule 0 [] false
    (mark m))

labelled_from : (levels : ℕ) (end : Keyword) (w : Word) (v : Next)
    → ((n : List ℕ) (x : List Word) → Begins end (name n ∷ w ∷ x)) → Answer levels (Running in_rule 0 [] true) w v
    → Answer levels (Labelled end) w (then_rules end v)
unfolding run_then
labelled_from levels end w (Err k) begins f = tt
labelled_from levels end w (Ok zs) begins f = (
  all_append IsInner zs (Rules end ∷ []) f.0 (tt, tt),
  λ ws h n.
      let p = take_apart levels zs (Rules end ∷ []) ws h in
      let r : OfRun levels in_rule 0 [] true (w ∷ p.0) = f.1 p.0 p.2 in
      let t = run_then levels end true (w ∷ p.0) p.1 (w ∷ ws) r (takes_one levels (Rules end) p.1 p.3)
      (ap (λ l. w ∷ l) p.4) in
      one_rule levels end None (word (name n) r.0) (refl, refl, r.1) tt
      (λ k. begins_named end n w p.0 (words_of_run r.0) (mark marks.Semicolon) (begins n) r.3) p.1
      (takes_one levels (Rules end) p.1 p.3) (name n ∷ w ∷ ws) (ap (λ l. name n ∷ l) t.spelled),
)

pub labelled_production : (levels : ℕ) (end : Keyword) (w : Word) → Production levels (Labelled end) w
labelled_production levels end (mark marks.Colon) = (
  (tt, (tt, tt)),
  λ ws h n.
      let t = run_behind levels end false ws h in
      one_rule levels end (Some n) t.run t.fits (t.stands refl) (λ e. absurd cc) t.rest t.rules
      (name n ∷ mark marks.Colon ∷ ws) (ap (λ l. name n ∷ mark marks.Colon ∷ l) t.spelled),
)
labelled_production levels end (mark m) = labelled_from levels end (mark m)
    (next_running levels in_rule 0 [] true (token (mark m))) (λ n x. tt) (running_production levels in_rule 0 [] true
    (mark m))
labelled_production levels end (keyword k) = labelled_from levels end (keyword k)
    (next_running levels in_rule 0 [] true (token (keyword k))) (λ n x. tt) (running_production levels in_rule 0 [] true
    (keyword k))
labelled_production levels end (name t) = labelled_from levels end (name t)
    (next_running levels in_rule 0 [] true (token (name t))) (λ n x. tt) (running_production levels in_rule 0 [] true
    (name t))
labelled_production levels end (integer t) = labelled_from levels end (integer t)
    (next_running levels in_rule 0 [] true (token (integer t))) (λ n x. tt) (running_production levels in_rule 0 [] true
    (integer t))
labelled_production levels end (real t) = labelled_from levels end (real t)
    (next_running levels in_rule 0 [] true (token (real t))) (λ n x. tt) (running_production levels in_rule 0 [] true
    (real t))
labelled_production levels end (string t) = labelled_from levels end (string t)
    (next_running levels in_rule 0 [] true (token (string t))) (λ n x. tt) (running_production levels in_rule 0 [] true
    (string t))
labelled_production levels end (encoded t) = labelled_from levels end (encoded t)
    (next_running levels in_rule 0 [] true (token (encoded t))) (λ n x. tt) (running_production levels in_rule 0 [] true
    (encoded t))
labelled_production levels end (binary t) = labelled_from levels end (binary t)
    (next_running levels in_rule 0 [] true (token (binary t))) (λ n x. tt) (running_production levels in_rule 0 [] true
    (binary t))

pub type_end_production : (levels : ℕ) (w : Word) → Production levels TypeEnd w
type_end_production levels (keyword keywords.Where) = (
  (tt, tt),
  λ ws h. let r = takes_one levels (Rules keywords.EndType) ws h in
      (Some r.0, r.1, ap (λ l. keyword keywords.Where ∷ l) r.2),
)
type_end_production levels (keyword keywords.EndType) = (
  (tt, tt),
  λ ws h. (
    None,
    tt,
    ap (λ l. keyword keywords.EndType ∷ l) (takes_one levels (Just marks.Semicolon) ws
        h),
  ),
)
type_end_production levels _ = tt
