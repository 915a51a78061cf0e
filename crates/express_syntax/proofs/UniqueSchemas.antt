-- A text reads as one schema at most.
use Rattle.std.proofs.Common.{◌≡◌, ℕ, List, [], ◌∷◌, ◌++◌, Option, None, Some, map, refl, sym, ap, ◌∙◌, subst, append-nil, codes, inl, inr, ◌⊎◌}
use Rattle.std.proofs.Math.Facts.{yes_eqb}
use Rattle.std.proofs.lemmas.List.{append_cancel_right}
use Rattle.parsing.specs.Tables.{lookaheads}
use Rattle.parsing.proofs.Leading.{leads_once}
use Rattle.parsing.proofs.Lists.{lookaheads_append}
use Rattle.parsing.proofs.Shown.{IsMore, shown_alike}
use Rattle.express_lexer.specs.declared.marks.Mark.TheVariants as marks
use Rattle.express_lexer.specs.Reading.{start}
use Rattle.express_syntax.specs.declared.keyword.Keyword.TheVariants as keywords
use Rattle.express_syntax.specs.Words.{Word, keyword, name, mark}
use Rattle.express_syntax.specs.Grammar.{depth_limit}
use Rattle.express_syntax.specs.Runs.{words_of_routine}
use Rattle.express_syntax.specs.steps.PassageLemmas.{routine_once}
use Rattle.express_syntax.specs.Schemas.{TypeDeclaration, Skipped, function, procedure, rule, constants, subtype_constraint, Declaration, type, entity, skipped, Schema}
use Rattle.express_syntax.specs.WrittenSchemas.{concatenated, words_of_rule, words_of_clause, words_of_underlying, words_of_type, words_of_skipped, words_of_declaration, words_of_version, words_of_opening, words_of_schema}
use Rattle.express_syntax.specs.Profile.{Maybe, IsWithout, FitsType, FitsSkipped, FitsDeclaration, IsVersion, FitsSchema}
use Rattle.express_syntax.specs.steps.Predict.{schema_symbols, next}
use Rattle.express_syntax.specs.Texts.{end_of_text, LocatedToken, Shows, token, lookaheads_of, ReadsAs}
use Rattle.express_syntax.proofs.Shown.{shown_once}
use Rattle.express_syntax.proofs.PassingSchemas.{pass_schema}
use Rattle.express_syntax.proofs.Apart.{head_is, tail_is, same_name, regrouped, Headed, within, same_tokens, each_once}
use Rattle.express_syntax.proofs.UniqueDataTypes.{underlying_once}
use Rattle.express_syntax.proofs.UniqueEntities.{rules_once, entity_once}

-- words up to the one that ends them
until_once : (end : List ℕ) (s t : List Word) (u v : List Word) → IsWithout end s → IsWithout end t → s ++ name end
    ∷ u ≡ t ++ name end ∷ v → (s ≡ t) × (u ≡ v)
until_once end [] [] u v f g e = (refl, tail_is e)
until_once end [] (w ∷ t) u v f g e = absurd (g.0 (sym (head_is e)))
until_once end (w ∷ s) [] u v f g e = absurd (f.0 (head_is e))
until_once end (w ∷ s) (x ∷ t) u v f g e =
    let first = head_is e in
    let more = until_once end s t u v f.1 g.1 (tail_is e) in
    ((λ i. first i ∷ more.0 i), more.1)

-- words up to the one that ends them, and its semicolon
ended_once : (end : List ℕ) (s t : List Word) (u v : List Word) → IsWithout end s → IsWithout end t
    → (s ++ name end ∷ mark marks.Semicolon ∷ []) ++ u ≡ (t ++ name end ∷ mark marks.Semicolon ∷ []) ++ v → (s ≡ t)
    × (u ≡ v)
ended_once end s t u v f g e =
    let last = name end ∷ mark marks.Semicolon ∷ [] in
    let r = until_once end s t (mark marks.Semicolon ∷ u) (mark marks.Semicolon ∷ v) f g (regrouped s last u t last v e)
    in
    (r.0, tail_is r.1)

-- the letter by which skipped declarations are told apart
abbrev initial : List Word → ℕ
initial (name (letter ∷ n) ∷ ws) = letter
initial ws = 0

skipped_once : (x y : Skipped) (u v : List Word) → FitsSkipped x → FitsSkipped y → words_of_skipped x
    ++ u ≡ words_of_skipped y ++ v → (x ≡ y) × (u ≡ v)
skipped_once (function n r) (function m s) u v f g e =
    let last = mark marks.Semicolon ∷ [] in
    let first = same_name n m ((words_of_routine r ++ last) ++ u) ((words_of_routine s ++ last) ++ v) (tail_is e) in
    let p = routine_once r s (last ++ u) (last ++ v) f g (regrouped (words_of_routine r) last u (words_of_routine s)
    last v (tail_is (tail_is e))) in
    ((λ i. function (first i) (p.0 i)), tail_is p.1)
skipped_once (procedure n r) (procedure m s) u v f g e =
    let last = mark marks.Semicolon ∷ [] in
    let first = same_name n m ((words_of_routine r ++ last) ++ u) ((words_of_routine s ++ last) ++ v) (tail_is e) in
    let p = routine_once r s (last ++ u) (last ++ v) f g (regrouped (words_of_routine r) last u (words_of_routine s)
    last v (tail_is (tail_is e))) in
    ((λ i. procedure (first i) (p.0 i)), tail_is p.1)
skipped_once (rule n s) (rule m t) u v f g e =
    let first : n ≡ m = cc in
    let p = ended_once (codes "END_RULE") s t u v f g (tail_is (tail_is e)) in
    ((λ i. rule (first i) (p.0 i)), p.1)
skipped_once (constants s) (constants t) u v f g e = let p = ended_once (codes "END_CONSTANT") s t u v f g (tail_is e)
    in (ap constants p.0, p.1)
skipped_once (subtype_constraint n s) (subtype_constraint m t) u v f g e =
    let first : n ≡ m = cc in
    let p = ended_once (codes "END_SUBTYPE_CONSTRAINT") s t u v f g (tail_is (tail_is e)) in
    ((λ i. subtype_constraint (first i) (p.0 i)), p.1)
skipped_once x y u v f g e = absurd (yes_eqb (ap initial e))

type_once : (x y : TypeDeclaration) (u v : List Word) → FitsType depth_limit x → FitsType depth_limit y
    → words_of_type x ++ u ≡ words_of_type y ++ v → (x ≡ y) × (u ≡ v)
type_once x y u v f g e =
    let last = keyword keywords.EndType ∷ mark marks.Semicolon ∷ [] in
    let rules = words_of_clause keywords.Where words_of_rule x.rules in
    let rules' = words_of_clause keywords.Where words_of_rule y.rules in
    let under = words_of_underlying x.underlying in
    let under' = words_of_underlying y.underlying in
    let named = tail_is e in
    let n = same_name x.name y.name (mark marks.Equal ∷ (under ++ mark marks.Semicolon ∷ (rules ++ last)) ++ u)
    (mark marks.Equal ∷ (under' ++ mark marks.Semicolon ∷ (rules' ++ last)) ++ v) named in
    let t = underlying_once x.underlying y.underlying ((rules ++ last) ++ u) ((rules' ++ last) ++ v) f.0 g.0
    (regrouped under (mark marks.Semicolon ∷ (rules ++ last)) u under' (mark marks.Semicolon ∷ (rules' ++ last)) v
    (tail_is (tail_is named))) in
    let r = rules_once keywords.EndType (λ p. cc) x.rules y.rules (mark marks.Semicolon ∷ u) (mark marks.Semicolon ∷ v)
    f.1 g.1 (regrouped rules last u rules' last v t.1) in
    ((λ i. record { name = n i; underlying = t.0 i; rules = r.0 i }), tail_is r.1)

-- only skipped declarations begin with a name
abbrev IsNamed : List Word → Type 0
IsNamed (name n ∷ ws) = Unit {0}
IsNamed ws = ⊥

skipped_named : (s : Skipped) (u : List Word) → IsNamed (words_of_skipped s ++ u)
skipped_named (function n r) u = tt
skipped_named (procedure n r) u = tt
skipped_named (rule n ws) u = tt
skipped_named (constants ws) u = tt
skipped_named (subtype_constraint n ws) u = tt

declaration_once : (x y : Declaration) (u v : List Word) → FitsDeclaration depth_limit x → FitsDeclaration depth_limit y
    → words_of_declaration x ++ u ≡ words_of_declaration y ++ v → (x ≡ y) × (u ≡ v)
declaration_once (type x) (type y) u v f g e = let r = type_once x y u v f g e in (ap type r.0, r.1)
declaration_once (type x) (entity y) u v f g e = absurd cc
declaration_once (type x) (skipped y) u v f g e = absurd (subst IsNamed (sym e) (skipped_named y v))
declaration_once (entity x) (type y) u v f g e = absurd cc
declaration_once (entity x) (entity y) u v f g e = let r = entity_once x y u v f g e in (ap entity r.0, r.1)
declaration_once (entity x) (skipped y) u v f g e = absurd (subst IsNamed (sym e) (skipped_named y v))
declaration_once (skipped x) (type y) u v f g e = absurd (subst IsNamed e (skipped_named x u))
declaration_once (skipped x) (entity y) u v f g e = absurd (subst IsNamed e (skipped_named x u))
declaration_once (skipped x) (skipped y) u v f g e = let r = skipped_once x y u v f g e in (ap skipped r.0, r.1)

declaration_not_end : (x : Declaration) (u : List Word) → FitsDeclaration depth_limit x → Headed keywords.EndSchema
    (words_of_declaration x ++ u) → ⊥
declaration_not_end (type x) u f h = let first = h.1 in cc
declaration_not_end (entity x) u f h = let first = h.1 in cc
declaration_not_end (skipped x) u f h = subst IsNamed h.1 (skipped_named x u)

not_semicolon : (w : Word) → IsVersion w → w ≡ mark marks.Semicolon → ⊥
not_semicolon w f e = subst IsVersion e f

version_once : (x y : Option Word) (u v : List Word) → Maybe IsVersion x → Maybe IsVersion y → words_of_version x
    ++ mark marks.Semicolon ∷ u ≡ words_of_version y ++ mark marks.Semicolon ∷ v → (x ≡ y) × (u ≡ v)
version_once None None u v f g e = (refl, tail_is e)
version_once None (Some w) u v f g e = absurd (not_semicolon w g (sym (head_is e)))
version_once (Some w) None u v f g e = absurd (not_semicolon w f (head_is e))
version_once (Some w) (Some x) u v f g e = (ap Some (head_is e), tail_is (tail_is e))

-- words are those of one schema at most
pub same_words : (x y : Schema) → FitsSchema depth_limit x → FitsSchema depth_limit y
    → words_of_schema x ≡ words_of_schema y → x ≡ y
same_words x y f g e =
    let last = mark marks.Semicolon ∷ [] in
    let end = keyword keywords.EndSchema ∷ last in
    let declarations = concatenated (map words_of_declaration x.declarations) in
    let declarations' = concatenated (map words_of_declaration y.declarations) in
    let opening = regrouped (words_of_opening x) declarations end (words_of_opening y) declarations' end e in
    let n = same_name x.name y.name ((words_of_version x.version ++ last) ++ (declarations ++ end))
    ((words_of_version y.version ++ last) ++ (declarations' ++ end)) (tail_is opening) in
    let v = version_once x.version y.version (declarations ++ end) (declarations' ++ end) f.0 g.0
    (regrouped (words_of_version x.version) last (declarations ++ end) (words_of_version y.version) last
    (declarations' ++ end) (tail_is (tail_is opening))) in
    let d = each_once words_of_declaration (FitsDeclaration depth_limit) (Headed keywords.EndSchema) declaration_once
    declaration_not_end x.declarations y.declarations end end f.1 g.1 (last, refl) (last, refl) v.1 in
    λ i. record { name = n i; version = v.0 i; declarations = d.0 i }

same_lookaheads : (x y : Schema) → FitsSchema depth_limit x → FitsSchema depth_limit y → lookaheads_of x ≡ lookaheads_of
    y → x ≡ y
same_lookaheads x y f g e = same_words x y f g (same_tokens (words_of_schema x) (words_of_schema y)
    (append_cancel_right (map token (words_of_schema x)) (map token (words_of_schema y)) (end_of_text ∷ []) e))

-- the tokens of one schema don't go on to be those of another
longer : (x y : Schema) → FitsSchema depth_limit x → FitsSchema depth_limit y → (s more t : List LocatedToken) → s
    ++ more ≡ t → lookaheads s ≡ lookaheads_of x → lookaheads t ≡ lookaheads_of y → x ≡ y
longer x y f g s more t e h k =
    same_lookaheads x y f g
    (leads_once (next depth_limit) schema_symbols (lookaheads_of x) (lookaheads_of y) (lookaheads more) []
    (pass_schema depth_limit within x f) (pass_schema depth_limit within y g)
    (ap (λ l. l ++ lookaheads more) (sym h) ∙ sym (lookaheads_append s more) ∙ ap lookaheads e ∙ k
    ∙ sym (append-nil (lookaheads_of y)))).0

-- a text reads as one schema at most
pub one_schema : (text : List ℕ) (x y : Schema) → ReadsAs text x → ReadsAs text y → x ≡ y
one_schema text x y h g = by (shown_alike Shows shown_once (start text) h.end g.end h.shown g.shown h.shows g.shows)
  where
    by : IsMore Shows h.shown h.end g.shown g.end ⊎ IsMore Shows g.shown g.end h.shown h.end → x ≡ y
    by (inl m) = longer x y h.fits g.fits h.shown m.0 g.shown m.1 h.are g.are
    by (inr m) = sym (longer y x g.fits h.fits g.shown m.0 h.shown m.1 g.are h.are)
