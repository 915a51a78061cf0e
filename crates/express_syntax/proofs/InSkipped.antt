-- Tokens end inside a skipped declaration just where one of its symbols is to come.
use Rattle.std.proofs.Common.{◌≡◌, ℕ, zero, suc, ◌≤◌, ◌<◌, List, [], ◌∷◌, ◌++◌, length, map, codes, Ok, refl, sym, ap, ◌∙◌, subst, arith, append_assoc, append-nil, length-append, ◌⊎◌, inl, inr}
use Rattle.parsing.specs.Tables.{lookaheads}
use Rattle.parsing.specs.Languages.{AllAre}
use Rattle.parsing.proofs.Lists.{lookaheads_append}
use Rattle.parsing.proofs.Leading.{Leads, leads_join, leads_split, leads_more}
use Rattle.parsing.proofs.Running.{Reaches, reaches_more, reaches_join, reaches_once, reaches_parts, completes, passed}
use Rattle.express_lexer.specs.declared.marks.Mark.TheVariants as marks
use Rattle.express_syntax.specs.declared.keyword.Keyword.TheVariants as keywords
use Rattle.express_syntax.specs.Words.{Word, keyword, name, mark}
use Rattle.express_syntax.specs.Grammar.{depth_limit}
use Rattle.express_syntax.specs.Runs as runs
use Rattle.express_syntax.specs.Runs.{words_of_routine, FitsRoutine}
use Rattle.express_syntax.specs.Schemas.{Skipped, function, procedure, rule, constants, subtype_constraint, Declaration, Schema}
use Rattle.express_syntax.specs.WrittenSchemas.{concatenated, words_of_skipped, words_of_declaration, words_of_opening}
use Rattle.express_syntax.specs.Profile.{IsWithout, FitsSkipped, FitsDeclaration, FitsSchema}
use Rattle.express_syntax.specs.Texts.{Lookahead, token, end_of_text, LocatedToken, lookaheads_of, IsInSkipped}
use Rattle.express_syntax.specs.steps.Predict.{Symbol, Just, Say, Id, Version, Declarations, EndOfText, SkippedName, SkippedEnd, Routine, Until, next, next_declaration, schema_symbols}
use Rattle.express_syntax.proofs.Complete.{IsAny, all_any, complete}
use Rattle.express_syntax.proofs.Passing.{Goal, Led, by_itself, leads_part}
use Rattle.express_syntax.proofs.PassingEntities.{pass_each}
use Rattle.express_syntax.proofs.PassingSkipped.{until_end, named_until, named_routine}
use Rattle.express_syntax.proofs.PassingSchemas.{pass_declaration, pass_opening}
use Rattle.express_syntax.proofs.Sound.{production, schema_led}
use Rattle.express_syntax.proofs.SoundTakes.{IsInner, taken}
use Rattle.express_syntax.proofs.Refusals.{IsRead}
use Rattle.express_syntax.proofs.Reasons.{IsSkipping, TakesSkipped, Begins, ends, reads, begins_skipped, refuses, begins, leads_keeps, read_kept, skipping_kept, read_or_skipping, over_leaves}

-- lists
no_longer : {X : Type 0} (x : X) (b c : List X) → c ≡ x ∷ b ++ c → ⊥
no_longer x b c e = let n : length c ≡ suc (length (b ++ c)) = ap length e in omega (arith, n, length-append b c)

cancel_right : {X : Type 0} (a b c : List X) → a ++ c ≡ b ++ c → a ≡ b
cancel_right [] [] c e = refl
cancel_right [] (x ∷ b) c e = absurd (no_longer x b c e)
cancel_right (x ∷ a) [] c e = absurd (no_longer x a c (sym e))
cancel_right (x ∷ a) (y ∷ b) c e =
    let h : x ≡ y = cc in
    let t : a ++ c ≡ b ++ c = cc in
    (λ i. h i ∷ cancel_right a b c t i)

map_append : (a b : List Word) → map token (a ++ b) ≡ map token a ++ map token b
map_append [] b = refl
map_append (w ∷ a) b = ap (λ l. token w ∷ l) (map_append a b)

-- words whose tokens are in two parts
part_words : (ws : List Word) (a b : List Lookahead) → map token ws ≡ a ++ b → (u v : List Word) × (ws ≡ u ++ v)
    × (map token u ≡ a) × (map token v ≡ b)
part_words ws [] b e = ([], ws, refl, refl, e)
part_words [] (s ∷ a) b e = absurd cc
part_words (w ∷ ws) (s ∷ a) b e =
    let h : token w ≡ s = cc in
    let p = part_words ws a b (let t : map token ws ≡ a ++ b = cc in t) in
    (w ∷ p.0, p.1, ap (λ l. w ∷ l) p.2, (λ i. h i ∷ p.3 i), p.4)

map_some : (ws : List Word) (s : Lookahead) (b : List Lookahead) → map token ws ≡ s ∷ b → 0 < length ws
map_some [] s b e = absurd cc
map_some (w ∷ ws) s b e = omega arith

-- the rest of a schema and its end
abbrev Rest : List Symbol
Rest = Declarations ∷ EndOfText ∷ []

abbrev Opening : List Symbol
Opening = Say keywords.Schema ∷ Id ∷ Version ∷ []

-- Where a symbol of a skipped declaration is to come: some whole declarations, and the front of a skipped one.
record Inside (levels : ℕ) (s : List LocatedToken) (top : Symbol) : Type 0 where
  whole : List LocatedToken
  at : LocatedToken
  more : List LocatedToken
  tokens : s ≡ whole ++ at ∷ more
  declared : Reaches (next levels) (Declarations ∷ []) whole (Declarations ∷ [])
  word : List ℕ
  at_is : at.lookahead ≡ token (name word)
  symbols : List Symbol
  skipping : AllAre IsSkipping symbols
  taking : TakesSkipped levels word symbols
  begun : next levels Declarations at.lookahead ≡ Ok (symbols ++ Declarations ∷ [])
  left : List Symbol
  reached : Reaches (next levels) symbols more (top ∷ left)

head_is : (x y : Symbol) (xs ys : List Symbol) → x ∷ xs ≡ y ∷ ys → x ≡ y
head_is x y xs ys e = cc

-- what is read leads to nothing skipped
read_leads : (levels : ℕ) → 0 < levels → (s : List LocatedToken) (ys : List Symbol) (top : Symbol)
    (others : List Symbol) → AllAre (IsRead levels) ys → Reaches (next levels) ys s (top ∷ others) → IsSkipping top → ⊥
read_leads levels d s ys top others a h k = read_or_skipping levels top
    (leads_keeps levels (IsRead levels) (λ y s zs p e. read_kept levels d y s zs p e) (lookaheads s) ys (top ∷ others) a
    h).0 k

none_behind : (levels : ℕ) (zs : List Symbol) (s : List LocatedToken) (top : Symbol) (others : List Symbol) → zs ≡ []
    → Reaches (next levels) (zs ++ []) s (top ∷ others) → ⊥
none_behind levels zs [] top others e h = let n : zs ++ [] ≡ [] = ap (λ l. l ++ []) e in cc
none_behind levels zs (t ∷ s) top others e h = let P : List Symbol → Type 0 = λ l. Reaches (next levels) (l ++ [])
    (t ∷ s) (top ∷ others) in absurd (subst P e h)

over_behind : (levels : ℕ) (s : List LocatedToken) (top : Symbol) (others : List Symbol)
    → Reaches (next levels) (EndOfText ∷ []) s (top ∷ others) → IsSkipping top → ⊥
over_behind levels [] top others h k = subst IsSkipping (sym (head_is EndOfText top [] others h)) k
over_behind levels (t ∷ s) top others h k = none_behind levels h.0 s top others (over_leaves levels t.lookahead h.0 h.1)
    h.2

end_behind : (levels : ℕ) → 0 < levels → (s : List LocatedToken) (top : Symbol) (others : List Symbol)
    → Reaches (next levels) (Just marks.Semicolon ∷ EndOfText ∷ []) s (top ∷ others) → IsSkipping top → ⊥
end_behind levels d s top others h k = by (reaches_parts (next levels) s (Just marks.Semicolon ∷ []) (EndOfText ∷ [])
    (top ∷ others) h)
  where
    by : ((y : Symbol) × (more : List Symbol) × Reaches (next levels) (Just marks.Semicolon ∷ []) s (y ∷ more)
        × (top ∷ others ≡ y ∷ more ++ EndOfText ∷ []))
        ⊎ ((u v : List LocatedToken) × (s ≡ u ++ v) × Reaches (next levels) (Just marks.Semicolon ∷ []) u []
        × Reaches (next levels) (EndOfText ∷ []) v (top ∷ others)) → ⊥
    by (inl g) = read_leads levels d s (Just marks.Semicolon ∷ []) g.0 g.1 (tt, tt) g.2
        (subst IsSkipping (head_is top g.0 others (g.1 ++ EndOfText ∷ []) g.3) k)
    by (inr g) = over_behind levels g.1 top others g.4 k

declared_first : (levels : ℕ) (t : LocatedToken) (u w : List LocatedToken) (us : List Symbol) → next levels Declarations
    t.lookahead ≡ Ok (us ++ Declarations ∷ []) → Reaches (next levels) us u []
    → Reaches (next levels) (Declarations ∷ []) w (Declarations ∷ []) → Reaches (next levels) (Declarations ∷ [])
    ((t ∷ u) ++ w) (Declarations ∷ [])
declared_first levels t u w us e h g =
    let P : List Symbol → Type 0 = λ l. Reaches (next levels) l (u ++ w) (Declarations ∷ []) in (
      us ++ Declarations ∷ [],
      e,
      subst P (sym (append-nil (us ++ Declarations ∷ [])))
          (reaches_join (next levels) u w (us ++ Declarations ∷ []) (Declarations ∷ []) (Declarations ∷ [])
          (reaches_more (next levels) u us [] (Declarations ∷ []) h) g),
    )

abbrev Parts : ℕ → List LocatedToken → List Symbol → Symbol → List Symbol → Type 0
Parts levels q us top others =
    ((y : Symbol) × (more : List Symbol) × Reaches (next levels) us q (y ∷ more) × (top ∷ others ≡ y ∷ more ++ Rest))
    ⊎ ((u v : List LocatedToken) × (q ≡ u ++ v) × Reaches (next levels) us u [] × Reaches (next levels) Rest v
    (top ∷ others))

inside : (levels : ℕ) → 0 < levels → (fuel : ℕ) (s : List LocatedToken) → length s < fuel
    → (top : Symbol) (others : List Symbol) → Reaches (next levels) Rest s (top ∷ others) → IsSkipping top
    → Inside levels s top
inside levels d zero s l top others h k = absurd (omega (arith, l))
inside levels d (suc fuel) [] l top others h k =
    absurd (subst IsSkipping (sym (head_is Declarations top (EndOfText ∷ []) others h)) k)
inside levels d (suc fuel) (t ∷ q) l top others h k = by (λ v g. inside levels d fuel v g top others)
    (begins levels t.lookahead)
  where
    behind : (us : List Symbol) → next levels Declarations t.lookahead ≡ Ok (us ++ Declarations ∷ [])
        → Parts levels q us top others
    behind us e =
        let z : h.0 ≡ us ++ Declarations ∷ [] = cc in
        let P : List Symbol → Type 0 = λ l. Reaches (next levels) l q (top ∷ others) in
        reaches_parts (next levels) q us Rest (top ∷ others)
        (subst P (ap (λ l. l ++ EndOfText ∷ []) z ∙ append_assoc us (Declarations ∷ []) (EndOfText ∷ [])) h.2)

    first : (us : List Symbol) → next levels Declarations t.lookahead ≡ Ok (us ++ Declarations ∷ [])
        → (u v : List LocatedToken) → q ≡ u ++ v → Reaches (next levels) us u [] → Inside levels v top
        → Inside levels (t ∷ q) top
    first us e u v f g i = record {
      whole = (t ∷ u) ++ i.whole;
      at = i.at;
      more = i.more;
      tokens = ap (λ l. t ∷ l) (f ∙ ap (λ l. u ++ l) i.tokens) ∙ sym (append_assoc (t ∷ u) i.whole (i.at ∷ i.more));
      declared = declared_first levels t u i.whole us e g i.declared;
      word = i.word;
      at_is = i.at_is;
      symbols = i.symbols;
      skipping = i.skipping;
      taking = i.taking;
      begun = i.begun;
      left = i.left;
      reached = i.reached;
    }

    shorter : (u v : List LocatedToken) → q ≡ u ++ v → length v < fuel
    shorter u v e = omega (arith, l, ap length e, length-append u v)

    here : (n : List ℕ) (us : List Symbol) → t.lookahead ≡ token (name n) → AllAre IsSkipping us
        → TakesSkipped levels n us → next levels Declarations t.lookahead ≡ Ok (us ++ Declarations ∷ [])
        → (y : Symbol) (more : List Symbol) → Reaches (next levels) us q (y ∷ more) → top ≡ y
        → Inside levels (t ∷ q) top
    here n us a b c e y more g same = record {
      whole = [];
      at = t;
      more = q;
      tokens = refl;
      declared = refl;
      word = n;
      at_is = a;
      symbols = us;
      skipping = b;
      taking = c;
      begun = e;
      left = more;
      reached = (let P : Symbol → Type 0 = λ z. Reaches (next levels) us q (z ∷ more) in subst P (sym same) g);
    }

    on_read : ((v : List LocatedToken) → length v < fuel → Reaches (next levels) Rest v (top ∷ others) → IsSkipping top
        → Inside levels v top) → (us : List Symbol) → AllAre (IsRead levels) us → next levels Declarations
        t.lookahead ≡ Ok (us ++ Declarations ∷ []) → Parts levels q us top others → Inside levels (t ∷ q) top
    on_read go us a e (inl g) = absurd (read_leads levels d q us g.0 g.1 a g.2
        (subst IsSkipping (head_is top g.0 others (g.1 ++ Rest) g.3) k))
    on_read go us a e (inr g) = first us e g.0 g.1 g.2 g.3 (go g.1 (shorter g.0 g.1 g.2) g.4 k)

    on_skipped : ((v : List LocatedToken) → length v < fuel → Reaches (next levels) Rest v (top ∷ others)
        → IsSkipping top → Inside levels v top) → (n : List ℕ) (us : List Symbol) → t.lookahead ≡ token (name n)
        → AllAre IsSkipping us → TakesSkipped levels n us → next levels Declarations t.lookahead ≡ Ok
        (us ++ Declarations ∷ []) → Parts levels q us top others → Inside levels (t ∷ q) top
    on_skipped go n us a b c e (inl g) = here n us a b c e g.0 g.1 g.2 (head_is top g.0 others (g.1 ++ Rest) g.3)
    on_skipped go n us a b c e (inr g) = first us e g.0 g.1 g.2 g.3 (go g.1 (shorter g.0 g.1 g.2) g.4 k)

    by : ((v : List LocatedToken) → length v < fuel → Reaches (next levels) Rest v (top ∷ others) → IsSkipping top
        → Inside levels v top) → Begins levels t.lookahead (next_declaration t.lookahead) → Inside levels (t ∷ q) top
    by go (ends e) =
        let z : h.0 ≡ Just marks.Semicolon ∷ [] = cc in
        let P : List Symbol → Type 0 = λ l. Reaches (next levels) (l ++ EndOfText ∷ []) q (top ∷ others) in
        absurd (end_behind levels d q top others (subst P z h.2) k)
    by go (reads us a e) = on_read go us a e (behind us e)
    by go (begins_skipped n us a b c e) = on_skipped go n us a b c e (behind us e)
    by go (refuses j f e) = absurd (let g : next_declaration t.lookahead ≡ Ok h.0 = h.1 in cc)

-- the whole declarations are those of a schema
abbrev Ended : List Lookahead
Ended = token (keyword keywords.EndSchema) ∷ token (mark marks.Semicolon) ∷ end_of_text ∷ []

schema_lookaheads : (x : Schema) → lookaheads_of x ≡ map token (words_of_opening x
    ++ concatenated (map words_of_declaration x.declarations)) ++ Ended
schema_lookaheads x =
    let front = words_of_opening x ++ concatenated (map words_of_declaration x.declarations) in
    let end = keyword keywords.EndSchema ∷ mark marks.Semicolon ∷ [] in
    ap (λ l. l ++ end_of_text ∷ []) (map_append front end) ∙ append_assoc (map token front) (map token end)
    (end_of_text ∷ [])

whole_schema : (levels : ℕ) (u v : List LocatedToken) → Reaches (next levels) Opening u []
    → Reaches (next levels) (Declarations ∷ []) v (Declarations ∷ [])
    → (x : Schema) × FitsSchema levels x
    × (lookaheads u ++ lookaheads v ≡ map token (words_of_opening x
    ++ concatenated (map words_of_declaration x.declarations)))
whole_schema levels u v h g =
    let end : Leads (next levels) Rest Ended [] = (Just marks.Semicolon ∷ [], refl, ([], refl, ([], refl, refl))) in
    let a = leads_join (next levels) (lookaheads v) Ended Rest Rest [] (leads_more (next levels) (lookaheads v)
    (Declarations ∷ []) (Declarations ∷ []) (EndOfText ∷ []) g) end in
    let b = leads_join (next levels) (lookaheads u) (lookaheads v ++ Ended) schema_symbols Rest []
    (leads_more (next levels) (lookaheads u) Opening [] Rest h) a in
    let x = schema_led levels (lookaheads u ++ (lookaheads v ++ Ended)) b in
    let front = map token (words_of_opening x.0 ++ concatenated (map words_of_declaration x.0.declarations)) in (
      x.0,
      x.1,
      cancel_right (lookaheads u ++ lookaheads v) front Ended (append_assoc (lookaheads u) (lookaheads v) Ended
          ∙ x.2 ∙ schema_lookaheads x.0),
    )

-- some words complete the declaration that is begun
skipping_inner : (ys : List Symbol) → AllAre IsSkipping ys → AllAre IsInner ys
skipping_inner [] h = tt
skipping_inner (y ∷ ys) h = (inner y h.0, skipping_inner ys h.1)
  where
    inner : (y : Symbol) → IsSkipping y → IsInner y
    inner SkippedName h = tt
    inner SkippedEnd h = tt
    inner (Routine n) h = tt
    inner (Until end) h = tt
    inner y h = absurd h

some_left : (levels : ℕ) (c : List LocatedToken) (y : Symbol) (ys : List Symbol) → Reaches (next levels) (y ∷ ys) c []
    → (s : Lookahead) × (b : List Lookahead) × (lookaheads c ≡ s ∷ b)
some_left levels [] y ys h = absurd cc
some_left levels (t ∷ c) y ys h = (t.lookahead, lookaheads c, refl)

begun_skipped : (levels : ℕ) (s : List LocatedToken) (top : Symbol) (i : Inside levels s top) → (x : Skipped)
    × (part rest : List Word) × FitsSkipped x × (words_of_skipped x ≡ part ++ rest) × (0 < length part)
    × (0 < length rest) × (map token part ≡ i.at.lookahead ∷ lookaheads i.more)
begun_skipped levels s top i =
    let c = completes (next levels) IsAny (complete levels) (top ∷ i.left) (all_any (top ∷ i.left)) in
    let p = passed (next levels) c.0 (top ∷ i.left) [] c.1 in
    let all = leads_join (next levels) (lookaheads i.more) (lookaheads p.taken) i.symbols (top ∷ i.left) [] i.reached
    p.reached in
    let t = taken levels (production levels) (lookaheads i.more ++ lookaheads p.taken) i.symbols
    (skipping_inner i.symbols i.skipping) all in
    let x = i.taking t.0 t.1 in
    let w = part_words (name i.word ∷ t.0) (i.at.lookahead ∷ lookaheads i.more) (lookaheads p.taken) (λ j. sym i.at_is j
    ∷ sym t.2 j) in
    let l = some_left levels p.taken top i.left p.reached in (
      x.0,
      w.0,
      w.1,
      x.1,
      x.2 ∙ w.2,
      map_some w.0 i.at.lookahead (lookaheads i.more) w.3,
      map_some w.1 l.0 l.1
          (w.4 ∙ l.2),
      w.3,
    )

-- where a symbol of a skipped declaration is to come, the tokens end inside one
pub skipping_inside : (before : List LocatedToken) (top : Symbol) (others : List Symbol) → Reaches (next depth_limit)
    schema_symbols before (top ∷ others) → IsSkipping top → IsInSkipped (lookaheads before)
skipping_inside before top others h k = by (reaches_parts (next depth_limit) before Opening Rest (top ∷ others) h)
  where
    found : (u v : List LocatedToken) → before ≡ u ++ v → Reaches (next depth_limit) Opening u []
        → Inside depth_limit v top → IsInSkipped (lookaheads before)
    found u v e g i =
        let x = whole_schema depth_limit u i.whole g i.declared in
        let s = begun_skipped depth_limit v top i in
        let front = words_of_opening x.0 ++ concatenated (map words_of_declaration x.0.declarations) in
        record {
          x = x.0;
          fits = x.1;
          skipped = s.0;
          skipped_fits = s.3;
          part = s.1;
          rest = s.2;
          split = s.4;
          begun = s.5;
          unended = s.6;
          tokens = ap lookaheads (e ∙ ap (λ l. u ++ l) i.tokens) ∙ lookaheads_append u (i.whole ++ i.at ∷ i.more)
              ∙ ap (λ l. lookaheads u ++ l) (lookaheads_append i.whole (i.at ∷ i.more))
              ∙ sym (append_assoc (lookaheads u) (lookaheads i.whole) (i.at.lookahead ∷ lookaheads i.more))
              ∙ (λ j. x.2 j ++ sym s.7 j) ∙ sym (map_append front s.1);
        }

    by : ((y : Symbol) × (more : List Symbol) × Reaches (next depth_limit) Opening before (y ∷ more)
        × (top ∷ others ≡ y ∷ more ++ Rest)) ⊎ ((u v : List LocatedToken) × (before ≡ u ++ v)
        × Reaches (next depth_limit) Opening u [] × Reaches (next depth_limit) Rest v (top ∷ others))
        → IsInSkipped (lookaheads before)
    by (inl g) = absurd (read_leads depth_limit (omega arith) before Opening g.0 g.1 (tt, (tt, (tt, tt))) g.2
        (subst IsSkipping (head_is top g.0 others (g.1 ++ Rest) g.3) k))
    by (inr g) = found g.0 g.1 g.2 g.3 (inside depth_limit (omega arith) (suc (length g.1)) g.1 (omega arith) top others
        g.4 k)

-- The other way: the words of a skipped declaration lead from its symbols to nothing more.
record SkippedLeads (levels : ℕ) (x : Skipped) : Type 0 where
  word : List ℕ
  more : List Word
  words : words_of_skipped x ≡ name word ∷ more
  symbols : List Symbol
  skipping : AllAre IsSkipping symbols
  begun : next levels Declarations (token (name word)) ≡ Ok (symbols ++ Declarations ∷ [])
  leads : Leads (next levels) symbols (map token more) []

alone : (levels : ℕ) (deep : depth_limit ≤ levels) (ys : List Symbol) (ws : List Word) → Led (by_itself levels deep) ys
    (ws ++ []) → Leads (next levels) ys (map token ws) []
alone levels deep ys ws h = let P : List Word → Type 0 = λ l. Led (by_itself levels deep) ys l in leads_part levels deep
    ys ws (subst P (append-nil ws) h)

abbrev ends_until : List Word → List ℕ → List Word
ends_until us end = us ++ name end ∷ mark marks.Semicolon ∷ []

routine_leads : (levels : ℕ) → depth_limit ≤ levels → (x : Skipped) (word n : List ℕ) (r : runs.Routine) → FitsRoutine r
    → words_of_skipped x ≡ name word ∷ name n ∷ (words_of_routine r ++ mark marks.Semicolon ∷ [])
    → next levels Declarations (token (name word)) ≡ Ok (SkippedName ∷ Routine 0 ∷ SkippedEnd ∷ Declarations ∷ [])
    → SkippedLeads levels x
routine_leads levels deep x word n r f e b =
    let more = name n ∷ (words_of_routine r ++ mark marks.Semicolon ∷ []) in
    let symbols = SkippedName ∷ Routine 0 ∷ SkippedEnd ∷ [] in
    record {
      word = word;
      more = more;
      words = e;
      symbols = symbols;
      skipping = (tt, (tt, (tt, tt)));
      begun = b;
      leads = alone levels deep symbols more (named_routine (by_itself levels deep) n r [] [] f refl);
    }

until_leads : (levels : ℕ) → depth_limit ≤ levels → (x : Skipped) (word n end : List ℕ) (us : List Word)
    → IsWithout end us → words_of_skipped x ≡ name word ∷ name n ∷ ends_until us end → next levels Declarations
    (token (name word)) ≡ Ok (SkippedName ∷ Until end ∷ SkippedEnd ∷ Declarations ∷ []) → SkippedLeads levels x
until_leads levels deep x word n end us f e b =
    let more = name n ∷ ends_until us end in
    let symbols = SkippedName ∷ Until end ∷ SkippedEnd ∷ [] in
    record {
      word = word;
      more = more;
      words = e;
      symbols = symbols;
      skipping = (tt, (tt, (tt, tt)));
      begun = b;
      leads = alone levels deep symbols more (named_until (by_itself levels deep) n end us [] [] f refl);
    }

constants_leads : (levels : ℕ) → depth_limit ≤ levels → (us : List Word) → IsWithout (codes "END_CONSTANT") us
    → SkippedLeads levels (constants us)
constants_leads levels deep us f =
    let more = ends_until us (codes "END_CONSTANT") in
    let symbols = Until (codes "END_CONSTANT") ∷ SkippedEnd ∷ [] in
    record {
      word = codes "CONSTANT";
      more = more;
      words = refl;
      symbols = symbols;
      skipping = (tt, (tt, tt));
      begun = refl;
      leads = alone levels deep symbols more (until_end (by_itself levels deep) (codes "END_CONSTANT") us [] [] f refl);
    }

skipped_leads : (levels : ℕ) → depth_limit ≤ levels → (x : Skipped) → FitsSkipped x → SkippedLeads levels x
skipped_leads levels deep (function n r) f = routine_leads levels deep (function n r) (codes "FUNCTION") n r f refl refl
skipped_leads levels deep (procedure n r) f = routine_leads levels deep (procedure n r) (codes "PROCEDURE") n r f refl
    refl
skipped_leads levels deep (rule n us) f = until_leads levels deep (rule n us) (codes "RULE") n (codes "END_RULE") us f
    refl refl
skipped_leads levels deep (constants us) f = constants_leads levels deep us f
skipped_leads levels deep (subtype_constraint n us) f = until_leads levels deep (subtype_constraint n us)
    (codes "SUBTYPE_CONSTRAINT") n (codes "END_SUBTYPE_CONSTRAINT") us f refl refl

-- a proper prefix of the words leaves one of these symbols
stands_first : (levels : ℕ) (zs : List Symbol) (rest : List Word) → 0 < length rest
    → Leads (next levels) zs (map token rest) [] → AllAre IsSkipping zs → (y : Symbol) × (ys : List Symbol)
    × (zs ≡ y ∷ ys) × IsSkipping y
stands_first levels [] [] l h a = absurd (omega (arith, l))
stands_first levels [] (w ∷ rest) l h a = absurd h
stands_first levels (y ∷ ys) rest l h a = (y, ys, refl, a.0)

record PartLeads (levels : ℕ) (part : List Word) : Type 0 where
  top : Symbol
  others : List Symbol
  skipping : IsSkipping top
  word : Word
  more : List Word
  words : part ≡ word ∷ more
  leads : Leads (next levels) Rest (map token part) (top ∷ others)

part_leads : (levels : ℕ) → depth_limit ≤ levels → (x : Skipped) → FitsSkipped x → (part rest : List Word)
    → words_of_skipped x ≡ part ++ rest → 0 < length part → 0 < length rest → PartLeads levels part
part_leads levels deep x f [] rest e l m = absurd (omega (arith, l))
part_leads levels deep x f (w ∷ part) rest e l m =
    let s = skipped_leads levels deep x f in
    let both : name s.word ∷ s.more ≡ w ∷ (part ++ rest) = sym s.words ∙ e in
    let h : w ≡ name s.word = cc in
    let t : s.more ≡ part ++ rest = cc in
    let P : List Lookahead → Type 0 = λ l. Leads (next levels) s.symbols l [] in
    let p = leads_split (next levels) (map token part) (map token rest) s.symbols []
    (subst P (ap (map token) t ∙ map_append part rest) s.leads) in
    let a = leads_keeps levels IsSkipping (λ y z zs q k. skipping_kept levels y z zs q k) (map token part) s.symbols p.0
    s.skipping p.1 in
    let z = stands_first levels p.0 rest m p.2 a in
    let Q : List Symbol → Type 0 = λ l. Leads (next levels) l (map token part) (z.0 ∷ (z.1 ++ Rest)) in
    let R : List Symbol → Type 0 = λ l. Leads (next levels) s.symbols (map token part) l in
    let on : Leads (next levels) (s.symbols ++ Rest) (map token part) (z.0 ∷ z.1 ++ Rest) = leads_more (next levels)
    (map token part) s.symbols (z.0 ∷ z.1) Rest (subst R z.2 p.1) in
    record {
      top = z.0;
      others = z.1 ++ Rest;
      skipping = z.3;
      word = w;
      more = part;
      words = refl;
      leads = (
        s.symbols ++ Declarations ∷ [],
        ap (λ v. next levels Declarations (token v)) h ∙ s.begun,
        subst Q (sym (append_assoc s.symbols (Declarations ∷ []) (EndOfText ∷ []))) on,
      );
    }

-- where tokens end inside a skipped declaration, one of its symbols is to come
pub inside_skipping : (before : List LocatedToken) (top : Symbol) (others : List Symbol)
    → IsInSkipped (lookaheads before) → Reaches (next depth_limit) schema_symbols before (top ∷ others) → IsSkipping top
inside_skipping before top others i h =
    let p = part_leads depth_limit (omega arith) i.skipped i.skipped_fits i.part i.rest i.split i.begun i.unended in
    let g : Goal = record {
      levels = depth_limit;
      deep = omega arith;
      behind = map token i.part;
      left = p.top ∷ p.others;
      ends = λ e. absurd (let n : map token i.part ≡ token p.word ∷ map token p.more = ap (map token) p.words in cc);
    }
    in
    let declarations = concatenated (map words_of_declaration i.x.declarations) in
    let a = pass_each g Declarations (EndOfText ∷ []) Declaration words_of_declaration (FitsDeclaration depth_limit)
    (pass_declaration g (EndOfText ∷ [])) i.x.declarations [] i.fits.1 p.leads in
    let b = pass_opening g i.x Rest (declarations ++ []) i.fits.0 a in
    let e : map token (words_of_opening i.x ++ (declarations ++ [])) ++ map token i.part ≡ lookaheads before =
    ap (λ l. map token (words_of_opening i.x ++ l) ++ map token i.part) (append-nil declarations)
    ∙ sym (map_append (words_of_opening i.x ++ declarations) i.part) ∙ sym i.tokens in
    let P : List Lookahead → Type 0 = λ l. Leads (next depth_limit) schema_symbols l (p.top ∷ p.others) in
    subst IsSkipping (head_is p.top top p.others others (reaches_once (next depth_limit) before schema_symbols
    (p.top ∷ p.others) (top ∷ others) (subst P e b) h)) p.skipping
