-- What the table lets pass is a schema that fits.
use Rattle.std.proofs.Common.{◌≡◌, ℕ, Bool, true, false, if◌then◌else◌, List, [], ◌∷◌, ◌++◌, None, Some, map, codes, Ok, Err, refl, sym, ap, ◌∙◌, subst, append_assoc, append-nil}
use Rattle.std.specs.Str.{bytes_eq}
use Rattle.std.proofs.lemmas.Slice.Eq.{bytes_eq-Decides}
use Rattle.parsing.specs.Tables.{lookaheads, passes}
use Rattle.parsing.proofs.Leading.{Leads, leads_apart}
use Rattle.parsing.proofs.Running.{Reaches, passed}
use Rattle.express_lexer.specs.declared.marks.Mark.TheVariants as marks
use Rattle.express_syntax.specs.declared.keyword.Keyword.TheVariants as keywords
use Rattle.express_syntax.specs.Words.{Word, keyword, name, string, encoded, mark}
use Rattle.express_syntax.specs.declared.fault.FaultKind.TheVariants as fault_kinds
use Rattle.express_syntax.specs.Runs as runs
use Rattle.express_syntax.specs.Runs.{words_of_routine}
use Rattle.express_syntax.specs.Schemas.{TypeDeclaration, Entity, Skipped, function, procedure, rule, constants, subtype_constraint, Declaration, type, entity, skipped, Schema}
use Rattle.express_syntax.specs.WrittenSchemas.{concatenated, said, words_of_clause, words_of_rule, words_of_underlying, words_of_supertype, words_of_subtype, words_of_explicit, words_of_derived, words_of_inverse, words_of_unique, words_of_skipped, words_of_declaration, words_of_version, words_of_schema}
use Rattle.express_syntax.specs.Profile.{Every, FitsSkipped, FitsDeclaration, FitsSchema}
use Rattle.express_syntax.specs.Texts.{Lookahead, token, flawed, end_of_text, LocatedToken}
use Rattle.express_syntax.specs.steps.Predict.{explicits, Symbol, Just, Say, Id, Names, Version, Declarations, EndOfText, SkippedName, SkippedEnd, Routine, Until, Underlying, DataTypeThen, WidthOr, FixedWidthOr, FixedOr, BoundsOrOf, OptionalOr, UniqueOr, Running, TypeEnd, Rules, Labelled, Head, Super, SuperOf, Sub, Body, AnAttribute, Explicits, OptionalDataType, Inverted, Holder, Uniques, UniqueNamed, next, next_end_of_text, schema_symbols, run}
use Rattle.express_syntax.specs.steps.Steps.{IsSchema}
use Rattle.express_syntax.proofs.SoundTakes.{Takes, AllTake, OfSuper, OfSub, BehindExplicits, BehindDerived, BehindInverses, BehindUniques, Answer, Production, takes_one, behind_mark, behind_word, behind_name, taken}
use Rattle.express_syntax.proofs.SoundRuns.{running_production, routine_production, until_production}
use Rattle.express_syntax.proofs.SoundDataTypes.{just_production, say_production, id_production, names_production, bounds_production, width_production, fixed_width_production, fixed_production, data_type_production, unique_production, optional_production, optional_data_type_production, underlying_production}
use Rattle.express_syntax.proofs.SoundRules.{rules_production, labelled_production, type_end_production}
use Rattle.express_syntax.proofs.SoundEntities.{sub_production, super_of_production, super_production, head_production, attribute_production, explicits_production, uniques_production, unique_named_production, holder_production, inverted_production, body_production}

-- the version
version_production : (levels : ℕ) (w : Word) → Production levels Version w
version_production levels (string t) = (
  (tt, tt),
  λ ws h. (Some (string t), tt, ap (λ l. string t ∷ l) (takes_one levels (Just marks.Semicolon) ws h)),
)
version_production levels (encoded t) = (
  (tt, tt),
  λ ws h. (Some (encoded t), tt, ap (λ l. encoded t ∷ l) (takes_one levels (Just marks.Semicolon) ws h)),
)
version_production levels (mark marks.Semicolon) = (tt, λ ws h. (None, tt, ap (λ l. mark marks.Semicolon ∷ l) h))
version_production levels _ = tt

-- a declaration and others
one_declaration : (levels : ℕ) (d : Declaration) (v ws : List Word) → FitsDeclaration levels d
    → Takes levels Declarations v → ws ≡ words_of_declaration d ++ v → Takes levels Declarations ws
one_declaration levels d v ws f h e = (
  d ∷ h.0,
  (f, h.1),
  e ∙ ap (λ l. words_of_declaration d ++ l) h.2
      ∙ sym (append_assoc (words_of_declaration d) (concatenated (map words_of_declaration h.0)) (keyword keywords.EndSchema
      ∷ mark marks.Semicolon ∷ [])),
)

-- a type
spread_type : (u r e v : List Word) (s : Word) → (u ++ s ∷ []) ++ ((r ++ e) ++ v) ≡ (u ++ s ∷ (r ++ e)) ++ v
spread_type u r e v s = simp append_assoc

type_taken : (levels : ℕ) (ws : List Word) → AllTake levels (Id ∷ Just marks.Equal ∷ Underlying ∷ TypeEnd ∷ Declarations
    ∷ []) ws → Takes levels Declarations (keyword keywords.Type ∷ ws)
type_taken levels ws h =
    let a = behind_name levels (Just marks.Equal ∷ Underlying ∷ TypeEnd ∷ Declarations ∷ []) ws h in
    let b = behind_mark levels marks.Equal (Underlying ∷ TypeEnd ∷ Declarations ∷ []) a.1 a.2 in
    let k : AllTake levels (Underlying ∷ TypeEnd ∷ Declarations ∷ []) b.0 = b.1 in
    let u : Takes levels Underlying k.0 = k.2 in
    let m : AllTake levels (TypeEnd ∷ Declarations ∷ []) k.1 = k.3 in
    let r : Takes levels TypeEnd m.0 = m.2 in
    let end : List Word = keyword keywords.EndType ∷ mark marks.Semicolon ∷ [] in
    let x : TypeDeclaration = record { name = a.0; underlying = u.0; rules = r.0 } in
    let f : k.1 ≡ (words_of_clause keywords.Where words_of_rule r.0 ++ end) ++ m.1 = m.4 ∙ ap (λ l. l ++ m.1) r.2 in
    one_declaration levels (type x) m.1 (keyword keywords.Type ∷ ws) (u.1, r.1) (takes_one levels Declarations m.1 m.3)
    (ap (λ l. keyword keywords.Type ∷ l)
    (a.3 ∙ ap (λ l. name a.0 ∷ l) (b.2 ∙ ap (λ l. mark marks.Equal ∷ l) (k.4 ∙ (λ i. u.2 i ++ f i)
    ∙ spread_type (words_of_underlying u.0) (words_of_clause keywords.Where words_of_rule r.0) end m.1
    (mark marks.Semicolon)))))

-- an entity
spread_head : (a s t : List Word) (m : Word) → a ++ (s ++ (t ++ m ∷ [])) ≡ a ++ s ++ t ++ m ∷ []
spread_head a s t m = simp append_assoc

spread_body : (h x ds is us rs e v : List Word) → h ++ ((x ++ (ds ++ (is ++ (us ++ (rs ++ e))))) ++ v) ≡ (h ++ x ++ ds
    ++ is ++ us ++ rs ++ e) ++ v
spread_body h x ds is us rs e v = simp append_assoc

entity_taken : (levels : ℕ) (ws : List Word) → AllTake levels (Id ∷ Head ∷ Body explicits ∷ Declarations ∷ []) ws
    → Takes levels Declarations (keyword keywords.Entity ∷ ws)
entity_taken levels ws h =
    let a = behind_name levels (Head ∷ Body explicits ∷ Declarations ∷ []) ws h in
    let k : AllTake levels (Head ∷ Body explicits ∷ Declarations ∷ []) a.1 = a.2 in
    let top : Takes levels Head k.0 = k.2 in
    let supers : OfSuper levels top.1 = top.2 in
    let subs : OfSub supers.1 = supers.3 in
    let m : AllTake levels (Body explicits ∷ Declarations ∷ []) k.1 = k.3 in
    let es : Takes levels (Body explicits) m.0 = m.2 in
    let ds : BehindExplicits levels es.1 = es.3 in
    let is : BehindDerived levels ds.1 = ds.3 in
    let us : BehindInverses levels is.1 = is.3 in
    let rs : BehindUniques levels us.1 = us.3 in
    let x : Entity = record {
      name = a.0;
      is_abstract = top.0;
      supertype = supers.0;
      subtype_of = subs.0;
      explicits = es.0;
      derived = ds.0;
      inverses = is.0;
      uniques = us.0;
      rules = rs.0;
    } in
    let end : List Word = keyword keywords.EndEntity ∷ mark marks.Semicolon ∷ [] in
    let head : List Word = said keywords.Abstract top.0 ++ words_of_supertype supers.0 ++ words_of_subtype subs.0
    ++ mark marks.Semicolon ∷ [] in
    let words_es : List Word = concatenated (map words_of_explicit es.0) in
    let words_ds : List Word = words_of_clause keywords.Derive words_of_derived ds.0 in
    let words_is : List Word = words_of_clause keywords.Inverse words_of_inverse is.0 in
    let words_us : List Word = words_of_clause keywords.Unique words_of_unique us.0 in
    let words_rs : List Word = words_of_clause keywords.Where words_of_rule rs.0 in
    let e : k.0 ≡ head =
    top.3 ∙ ap (λ l. said keywords.Abstract top.0 ++ l) (supers.4 ∙ ap (λ l. words_of_supertype supers.0 ++ l) subs.2)
    ∙ spread_head (said keywords.Abstract top.0) (words_of_supertype supers.0) (words_of_subtype subs.0)
    (mark marks.Semicolon) in
    let f : m.0 ≡ words_es ++ (words_ds ++ (words_is ++ (words_us ++ (words_rs ++ end)))) =
    es.4 ∙ ap (λ l. words_es ++ l) (ds.4 ∙ ap (λ l. words_ds ++ l)
    (is.4 ∙ ap (λ l. words_is ++ l) (us.4 ∙ ap (λ l. words_us ++ l) rs.2))) in
    let g : k.1 ≡ (words_es ++ (words_ds ++ (words_is ++ (words_us ++ (words_rs ++ end))))) ++ m.1 = m.4
    ∙ ap (λ l. l ++ m.1) f in
    one_declaration levels (entity x) m.1 (keyword keywords.Entity ∷ ws)
    (record {
      supertype = supers.2;
      subtype_of = subs.1;
      explicits = es.2;
      derived = ds.2;
      inverses = is.2;
      uniques = us.2;
      rules = rs.1;
    })
    (takes_one levels Declarations m.1 m.3)
    (ap (λ l. keyword keywords.Entity ∷ l) (a.3 ∙ ap (λ l. name a.0 ∷ l) (k.4 ∙ (λ i. e i ++ g i)))
    ∙ spread_body (keyword keywords.Entity ∷ name a.0 ∷ head) words_es words_ds words_is words_us words_rs end m.1)

-- what isn't read
skipped_taken : (levels : ℕ) (s : Skipped) (v ws : List Word) → FitsSkipped s → Takes levels Declarations v
    → ws ≡ words_of_skipped s ++ v → Takes levels Declarations ws
skipped_taken levels s v ws f h e = one_declaration levels (skipped s) v ws f h e

semicolon_behind : (levels : ℕ) (a w ws : List Word) → ws ≡ a ++ w → AllTake levels (SkippedEnd ∷ Declarations ∷ []) w
    → (u : List Word) × Takes levels Declarations u × (ws ≡ (a ++ mark marks.Semicolon ∷ []) ++ u)
semicolon_behind levels a w ws e h =
    let s : Takes levels SkippedEnd h.0 = h.2 in (
      h.1,
      takes_one levels Declarations h.1 h.3,
      e ∙ ap (λ l. a ++ l) (h.4 ∙ ap (λ l. l ++ h.1) s)
          ∙ sym (append_assoc a (mark marks.Semicolon ∷ []) h.1),
    )

skipped_name : (levels : ℕ) (ys : List Symbol) (ws : List Word) → AllTake levels (SkippedName ∷ ys) ws → (n : List ℕ)
    × (v : List Word) × AllTake levels ys v × (ws ≡ name n ∷ v)
skipped_name levels ys ws h = let n : Takes levels SkippedName h.0 = h.2 in
    (n.0, h.1, h.3, h.4 ∙ ap (λ l. l ++ h.1) n.1)

routine_skipped : (levels : ℕ) (ws : List Word) → AllTake levels (SkippedName ∷ Routine 0 ∷ SkippedEnd ∷ Declarations
    ∷ []) ws → (make : List ℕ → runs.Routine → Skipped) (w : Word)
    → ((n : List ℕ) (r : runs.Routine) → FitsSkipped (function n r) → FitsSkipped (make n r))
    → ((n : List ℕ) (r : runs.Routine) → words_of_skipped (make n r) ≡ w ∷ name n
    ∷ (words_of_routine r ++ mark marks.Semicolon ∷ [])) → Takes levels Declarations (w ∷ ws)
routine_skipped levels ws h make w fits spelled =
    let a = skipped_name levels (Routine 0 ∷ SkippedEnd ∷ Declarations ∷ []) ws h in
    let k : AllTake levels (Routine 0 ∷ SkippedEnd ∷ Declarations ∷ []) a.1 = a.2 in
    let r : Takes levels (Routine 0) k.0 = k.2 in
    let s = semicolon_behind levels (words_of_routine r.0) k.1 a.1 (k.4 ∙ ap (λ l. l ++ k.1) r.2) k.3 in
    skipped_taken levels (make a.0 r.0) s.0 (w ∷ ws) (fits a.0 r.0 r.1) s.1
    (ap (λ l. w ∷ l) (a.3 ∙ ap (λ l. name a.0 ∷ l) s.2) ∙ ap (λ l. l ++ s.0) (sym (spelled a.0 r.0)))

-- words up to one, and a semicolon
until_skipped : (levels : ℕ) (end : List ℕ) (ws : List Word) → AllTake levels (Until end ∷ SkippedEnd ∷ Declarations
    ∷ []) ws → (vs : List Word) × (u : List Word) × Every (λ w. w ≡ name end → ⊥) vs × Takes levels Declarations u
    × (ws ≡ (vs ++ name end ∷ mark marks.Semicolon ∷ []) ++ u)
until_skipped levels end ws h =
    let r : Takes levels (Until end) h.0 = h.2 in
    let s = semicolon_behind levels (r.0 ++ name end ∷ []) h.1 ws (h.4 ∙ ap (λ l. l ++ h.1) r.2) h.3 in
    (r.0, s.0, r.1, s.1, s.2 ∙ ap (λ l. l ++ s.0) (append_assoc r.0 (name end ∷ []) (mark marks.Semicolon ∷ [])))

function_taken : (levels : ℕ) (ws : List Word) → AllTake levels (SkippedName ∷ Routine 0 ∷ SkippedEnd ∷ Declarations
    ∷ []) ws → Takes levels Declarations (name (codes "FUNCTION") ∷ ws)
function_taken levels ws h = routine_skipped levels ws h function (name (codes "FUNCTION")) (λ n r f. f) (λ n r. refl)

procedure_taken : (levels : ℕ) (ws : List Word) → AllTake levels (SkippedName ∷ Routine 0 ∷ SkippedEnd ∷ Declarations
    ∷ []) ws → Takes levels Declarations (name (codes "PROCEDURE") ∷ ws)
procedure_taken levels ws h = routine_skipped levels ws h procedure (name (codes "PROCEDURE")) (λ n r f. f)
    (λ n r. refl)

rule_taken : (levels : ℕ) (ws : List Word) → AllTake levels (SkippedName ∷ Until (codes "END_RULE") ∷ SkippedEnd
    ∷ Declarations ∷ []) ws → Takes levels Declarations (name (codes "RULE") ∷ ws)
rule_taken levels ws h =
    let a = skipped_name levels (Until (codes "END_RULE") ∷ SkippedEnd ∷ Declarations ∷ []) ws h in
    let s = until_skipped levels (codes "END_RULE") a.1 a.2 in
    skipped_taken levels (rule a.0 s.0) s.1 (name (codes "RULE") ∷ ws) s.2 s.3
    (ap (λ l. name (codes "RULE") ∷ l) (a.3 ∙ ap (λ l. name a.0 ∷ l) s.4))

constants_taken : (levels : ℕ) (ws : List Word) → AllTake levels (Until (codes "END_CONSTANT") ∷ SkippedEnd
    ∷ Declarations ∷ []) ws → Takes levels Declarations (name (codes "CONSTANT") ∷ ws)
constants_taken levels ws h =
    let s = until_skipped levels (codes "END_CONSTANT") ws h in
    skipped_taken levels (constants s.0) s.1 (name (codes "CONSTANT") ∷ ws) s.2 s.3
    (ap (λ l. name (codes "CONSTANT") ∷ l) s.4)

constraint_taken : (levels : ℕ) (ws : List Word) → AllTake levels (SkippedName ∷ Until (codes "END_SUBTYPE_CONSTRAINT")
    ∷ SkippedEnd ∷ Declarations ∷ []) ws → Takes levels Declarations (name (codes "SUBTYPE_CONSTRAINT") ∷ ws)
constraint_taken levels ws h =
    let a = skipped_name levels (Until (codes "END_SUBTYPE_CONSTRAINT") ∷ SkippedEnd ∷ Declarations ∷ []) ws h in
    let s = until_skipped levels (codes "END_SUBTYPE_CONSTRAINT") a.1 a.2 in
    skipped_taken levels (subtype_constraint a.0 s.0) s.1 (name (codes "SUBTYPE_CONSTRAINT") ∷ ws) s.2 s.3
    (ap (λ l. name (codes "SUBTYPE_CONSTRAINT") ∷ l) (a.3 ∙ ap (λ l. name a.0 ∷ l) s.4))

-- words after one name are taken after any equal name
named_so : (levels : ℕ) (n t : List ℕ) (ws : List Word) → bytes_eq n t ≡ true → Takes levels Declarations (name t ∷ ws)
    → Takes levels Declarations (name n ∷ ws)
named_so levels n t ws e h = let P : List ℕ → Type 0 = λ l. Takes levels Declarations (name l ∷ ws) in
    subst P (sym ((bytes_eq-Decides n t).0 e)) h

skipped_production : (levels : ℕ) (n : List ℕ) → Production levels Declarations (name n)
skipped_production levels n = by (bytes_eq n (codes "FUNCTION")) (bytes_eq n (codes "PROCEDURE"))
    (bytes_eq n (codes "RULE")) (bytes_eq n (codes "CONSTANT")) (bytes_eq n (codes "SUBTYPE_CONSTRAINT")) refl refl refl
    refl refl
  where
    by : (a b c d e : Bool) → bytes_eq n (codes "FUNCTION") ≡ a → bytes_eq n (codes "PROCEDURE") ≡ b
        → bytes_eq n (codes "RULE") ≡ c → bytes_eq n (codes "CONSTANT") ≡ d
        → bytes_eq n (codes "SUBTYPE_CONSTRAINT") ≡ e
        → Answer levels Declarations (name n) (if a then Ok (SkippedName ∷ Routine 0 ∷ SkippedEnd ∷ Declarations ∷ [])
        else (if b then Ok (SkippedName ∷ Routine 0 ∷ SkippedEnd ∷ Declarations ∷ []) else
        (if c then Ok (SkippedName ∷ Until (codes "END_RULE") ∷ SkippedEnd ∷ Declarations ∷ []) else
        (if d then Ok (Until (codes "END_CONSTANT") ∷ SkippedEnd ∷ Declarations ∷ []) else
        (if e then Ok (SkippedName ∷ Until (codes "END_SUBTYPE_CONSTRAINT") ∷ SkippedEnd ∷ Declarations ∷ []) else
        Err fault_kinds.Expected)))))
    by true b c d e p q r s t = (
      (tt, (tt, (tt, (tt, tt)))),
      λ ws h. named_so levels n (codes "FUNCTION") ws p
          (function_taken levels ws h),
    )
    by false true c d e p q r s t = (
      (tt, (tt, (tt, (tt, tt)))),
      λ ws h. named_so levels n (codes "PROCEDURE") ws q
          (procedure_taken levels ws h),
    )
    by false false true d e p q r s t = (
      (tt, (tt, (tt, (tt, tt)))),
      λ ws h. named_so levels n (codes "RULE") ws r
          (rule_taken levels ws h),
    )
    by false false false true e p q r s t = (
      (tt, (tt, (tt, tt))),
      λ ws h. named_so levels n (codes "CONSTANT") ws s
          (constants_taken levels ws h),
    )
    by false false false false true p q r s t = (
      (tt, (tt, (tt, (tt, tt)))),
      λ ws h. named_so levels n (codes "SUBTYPE_CONSTRAINT") ws t
          (constraint_taken levels ws h),
    )
    by false false false false false p q r s t = tt

declarations_production : (levels : ℕ) (w : Word) → Production levels Declarations w
declarations_production levels (keyword keywords.Type) = (
  (tt, (tt, (tt, (tt, (tt, tt))))),
  λ ws h. type_taken levels ws
      h,
)
declarations_production levels (keyword keywords.Entity) =
    ((tt, (tt, (tt, (tt, tt)))), λ ws h. entity_taken levels ws h)
declarations_production levels (keyword keywords.EndSchema) = (
  (tt, tt),
  λ ws h. (
    [],
    tt,
    ap (λ l. keyword keywords.EndSchema ∷ l) (takes_one levels (Just marks.Semicolon) ws
        h),
  ),
)
declarations_production levels (name n) = skipped_production levels n
declarations_production levels _ = tt

skipped_name_production : (levels : ℕ) (w : Word) → Production levels SkippedName w
skipped_name_production levels (name n) = (tt, λ ws h. (n, ap (λ l. name n ∷ l) h))
skipped_name_production levels _ = tt

skipped_end_production : (levels : ℕ) (w : Word) → Production levels SkippedEnd w
skipped_end_production levels (mark marks.Semicolon) = (tt, λ ws h. ap (λ l. mark marks.Semicolon ∷ l) h)
skipped_end_production levels _ = tt

over_production : (levels : ℕ) (w : Word) → Production levels EndOfText w
over_production levels (keyword keywords.Schema) = tt
over_production levels _ = tt

-- what a token does to a symbol, in terms of trees
pub production : (levels : ℕ) (y : Symbol) (w : Word) → Production levels y w
production levels (Just m) w = just_production levels m w
production levels (Say k) w = say_production levels k w
production levels Id w = id_production levels w
production levels Names w = names_production levels w
production levels Version w = version_production levels w
production levels Declarations w = declarations_production levels w
production levels EndOfText w = over_production levels w
production levels SkippedName w = skipped_name_production levels w
production levels SkippedEnd w = skipped_end_production levels w
production levels (Routine n) w = routine_production levels n w
production levels (Until end) w = until_production levels end w
production levels Underlying w = underlying_production levels w
production levels (DataTypeThen n end) w = data_type_production levels n end w
production levels (WidthOr n end) w = width_production levels n end w
production levels (FixedWidthOr n end) w = fixed_width_production levels n end w
production levels (FixedOr end) w = fixed_production levels end w
production levels (BoundsOrOf n) w = bounds_production levels n w
production levels (OptionalOr n end) w = optional_production levels n end w
production levels (UniqueOr n end) w = unique_production levels n end w
production levels (Running part n inner some) w = running_production levels part n inner some w
production levels TypeEnd w = type_end_production levels w
production levels (Rules end) w = rules_production levels end w
production levels (Labelled end) w = labelled_production levels end w
production levels Head w = head_production levels w
production levels Super w = super_production levels w
production levels SuperOf w = super_of_production levels w
production levels Sub w = sub_production levels w
production levels (Body c) w = body_production levels c w
production levels AnAttribute w = attribute_production levels w
production levels Explicits w = explicits_production levels w
production levels OptionalDataType w = optional_data_type_production levels w
production levels Inverted w = inverted_production levels w
production levels Holder w = holder_production levels w
production levels Uniques w = uniques_production levels w
production levels UniqueNamed w = unique_named_production levels w

-- nothing but the end of the text stands where it is to come
no_word : (w : Word) (zs : List Symbol) → next_end_of_text (token w) ≡ Ok zs → ⊥
no_word (keyword keywords.Schema) zs e = cc
no_word _ zs e = cc

nothing_left : (zs : List Symbol) → next_end_of_text end_of_text ≡ Ok zs → zs ≡ []
nothing_left zs e = cc

alone : (levels : ℕ) (zs : List Symbol) (s : List Lookahead) → zs ≡ [] → Leads (next levels) (zs ++ []) s [] → s ≡ []
alone levels zs [] e h = refl
alone levels zs (x ∷ s) e h = let P : List Symbol → Type 0 = λ l. Leads (next levels) (l ++ []) (x ∷ s) [] in
    absurd (subst P e h)

over_alone : (levels : ℕ) (s : List Lookahead) → Leads (next levels) (EndOfText ∷ []) s [] → s ≡ end_of_text ∷ []
over_alone levels [] h = absurd cc
over_alone levels (flawed ∷ s) h = let e : next levels EndOfText flawed ≡ Ok h.0 = h.1 in absurd cc
over_alone levels (token w ∷ s) h = absurd (no_word w h.0 h.1)
over_alone levels (end_of_text ∷ s) h = ap (λ l. end_of_text ∷ l) (alone levels h.0 s (nothing_left h.0 h.1) h.2)

-- the opening and the declarations
spread_schema : (v j e : List Word) (m : Word) → (v ++ m ∷ []) ++ (j ++ e) ≡ (v ++ m ∷ []) ++ j ++ e
spread_schema v j e m = simp append_assoc

schema_taken : (levels : ℕ) (ws : List Word) → AllTake levels (Say keywords.Schema ∷ Id ∷ Version ∷ Declarations ∷ [])
    ws → (x : Schema) × FitsSchema levels x × (ws ≡ words_of_schema x)
schema_taken levels ws h =
    let a = behind_word levels keywords.Schema (Id ∷ Version ∷ Declarations ∷ []) ws h in
    let b = behind_name levels (Version ∷ Declarations ∷ []) a.0 a.1 in
    let k : AllTake levels (Version ∷ Declarations ∷ []) b.1 = b.2 in
    let v : Takes levels Version k.0 = k.2 in
    let d = takes_one levels Declarations k.1 k.3 in
    let x : Schema = record { name = b.0; version = v.0; declarations = d.0 } in
    let end : List Word = keyword keywords.EndSchema ∷ mark marks.Semicolon ∷ [] in (
      x,
      (v.1, d.1),
      a.2 ∙ ap (λ l. keyword keywords.Schema ∷ l) (b.3 ∙ ap (λ l. name b.0 ∷ l) (k.4 ∙ (λ i. v.2 i ++ d.2 i)
          ∙ spread_schema (words_of_version v.0) (concatenated (map words_of_declaration d.0)) end (mark marks.Semicolon))),
    )

-- what leads from the start to nothing more are the lookaheads of a schema
pub schema_led : (levels : ℕ) (s : List Lookahead) → Leads (next levels) schema_symbols s [] → IsSchema levels s
schema_led levels s h =
    let p = leads_apart (next levels) s (Say keywords.Schema ∷ Id ∷ Version ∷ Declarations ∷ []) (EndOfText ∷ []) h in
    let t = taken levels (λ y w. production levels y w) p.0 (Say keywords.Schema ∷ Id ∷ Version ∷ Declarations ∷ [])
    (tt, (tt, (tt, (tt, tt)))) p.3 in
    let x = schema_taken levels t.0 t.1 in
    let e : p.0 ≡ map token (words_of_schema x.0) = t.2 ∙ ap (map token) x.2 in
    let f : p.1 ≡ end_of_text ∷ [] = over_alone levels p.1 p.4 in
    (x.0, x.1, p.2 ∙ (λ i. e i ++ f i))

-- what the table lets pass is a schema that fits
pub sound : (levels : ℕ) (s : List LocatedToken) → run levels schema_symbols s ≡ passes []
    → IsSchema levels (lookaheads s)
sound levels s e =
    let p = passed (next levels) s schema_symbols [] e in
    let P : List LocatedToken → Type 0 = λ l. Reaches (next levels) schema_symbols l [] in
    schema_led levels (lookaheads s) (subst P (sym (append-nil p.taken) ∙ sym p.text) p.reached)
