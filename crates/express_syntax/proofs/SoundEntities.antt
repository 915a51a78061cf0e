-- Entities: what the table lets pass of them fits.
use Rattle.std.proofs.Common.{◌≡◌, ℕ, true, false, List, [], ◌∷◌, ◌++◌, Option, None, Some, map, Ok, Err, refl, sym, ap, ◌∙◌, subst, append_assoc, append-nil, inl, inr}
use Rattle.express_lexer.specs.declared.marks.Mark.TheVariants as marks
use Rattle.express_syntax.specs.declared.keyword.Keyword.TheVariants as keywords
use Rattle.express_syntax.specs.Words.{Word, keyword, name, mark}
use Rattle.express_syntax.specs.Schemas.{unsaid, bare, Attribute, own, redeclared, Explicit, Derived, alone, in_set, in_bag, Inverse, Unique}
use Rattle.express_syntax.specs.WrittenSchemas.{concatenated, said, words_of_names, words_of_body, words_of_data_type, words_of_some_bounds, words_of_attribute, words_of_explicit, words_of_derived, words_of_collection, words_of_holder, words_of_inverse, words_of_unique}
use Rattle.express_syntax.specs.Texts.{token}
use Rattle.express_syntax.specs.steps.Predict.{in_rule, in_parentheses, assignment, Clause, explicits, derived, inverses, uniques, Symbol, Just, Say, Id, DataTypeThen, Running, Rules, Head, Super, SuperOf, Sub, Body, AnAttribute, Explicits, OptionalDataType, Inverted, Holder, Uniques, UniqueNamed, Next, names_symbols, next_id, next_sub, next_super, next_uniques}
use Rattle.express_syntax.proofs.SoundTakes.{Takes, AllTake, OfBody, BehindExplicits, BehindDerived, BehindInverses, BehindUniques, words_of_more_attributes, Answer, Production, takes_one, behind_mark, behind_word, behind_name}
use Rattle.express_syntax.proofs.SoundRuns.{body_of, supertype_of}
use Rattle.express_syntax.proofs.SoundDataTypes.{names_taken, behind_bounds, id_production}

-- heads
pub sub_production : (levels : ℕ) (w : Word) → Production levels Sub w
sub_production levels (keyword keywords.Subtype) = (
  (tt, (tt, (tt, (tt, (tt, tt))))),
  λ ws h.
      let o = behind_word levels keywords.Of (names_symbols ++ Just marks.Semicolon ∷ []) ws h in
      let p = names_taken levels (Just marks.Semicolon ∷ []) o.0 o.1 in (
        Some p.0,
        p.2,
        ap (λ l. keyword keywords.Subtype ∷ l) (o.2 ∙ ap (λ l. keyword keywords.Of ∷ l)
            (p.4 ∙ ap (λ l. words_of_names p.0 ++ l) (takes_one levels (Just marks.Semicolon) p.1 p.3))),
      ),
)
sub_production levels (mark marks.Semicolon) = (tt, λ ws h. (None, tt, ap (λ l. mark marks.Semicolon ∷ l) h))
sub_production levels _ = tt

super_of_from : (levels : ℕ) (w : Word) (v : Next) → Answer levels Sub w v → Answer levels SuperOf w v
super_of_from levels w (Err k) f = tt
super_of_from levels w (Ok zs) f = (f.0, λ ws h. (bare, w ∷ ws, tt, f.1 ws h, refl))

pub super_of_production : (levels : ℕ) (w : Word) → Production levels SuperOf w
super_of_production levels (keyword keywords.Of) = (
  (tt, (tt, (tt, tt))),
  λ ws h.
      let a = behind_mark levels marks.Open (Running in_parentheses 1 [] false ∷ Sub ∷ []) ws h in
      let k : AllTake levels (Running in_parentheses 1 [] false ∷ Sub ∷ []) a.0 = a.1 in
      let r : Takes levels (Running in_parentheses 1 [] false) k.0 = k.2 in
      let s = supertype_of levels r.0 r.1 (r.2 refl) in (
        s.0,
        k.1,
        s.1,
        takes_one levels Sub k.1 k.3,
        ap (λ l. keyword keywords.Supertype ∷ keyword keywords.Of ∷ l)
            (a.2 ∙ ap (λ l. mark marks.Open ∷ l) (k.4 ∙ ap (λ l. l ++ k.1) r.3)) ∙ ap (λ l. l ++ k.1) (sym s.2),
      ),
)
super_of_production levels w = super_of_from levels w (next_sub (token w)) (sub_production levels w)

super_from : (levels : ℕ) (w : Word) (v : Next) → Answer levels Sub w v → Answer levels Super w v
super_from levels w (Err k) f = tt
super_from levels w (Ok zs) f = (f.0, λ ws h. (unsaid, w ∷ ws, tt, f.1 ws h, refl))

pub super_production : (levels : ℕ) (w : Word) → Production levels Super w
super_production levels (keyword keywords.Supertype) = ((tt, tt), λ ws h. takes_one levels SuperOf ws h)
super_production levels w = super_from levels w (next_sub (token w)) (sub_production levels w)

head_from : (levels : ℕ) (w : Word) (v : Next) → Answer levels Super w v → Answer levels Head w v
head_from levels w (Err k) f = tt
head_from levels w (Ok zs) f = (f.0, λ ws h. (false, w ∷ ws, f.1 ws h, refl))

pub head_production : (levels : ℕ) (w : Word) → Production levels Head w
head_production levels (keyword keywords.Abstract) = ((tt, tt), λ ws h. (true, ws, takes_one levels Super ws h, refl))
head_production levels w = head_from levels w (next_super (token w)) (super_production levels w)

-- attributes
redeclared_taken : (levels : ℕ) (ys : List Symbol) (ws : List Word) → AllTake levels (Just marks.Backslash ∷ Id
    ∷ Just marks.Dot ∷ Id ∷ ys) ws → (a : Attribute) × (v : List Word) × AllTake levels ys v
    × (keyword keywords.SelfWord ∷ ws ≡ words_of_attribute a ++ v)
redeclared_taken levels ys ws h =
    let a = behind_mark levels marks.Backslash (Id ∷ Just marks.Dot ∷ Id ∷ ys) ws h in
    let b = behind_name levels (Just marks.Dot ∷ Id ∷ ys) a.0 a.1 in
    let c = behind_mark levels marks.Dot (Id ∷ ys) b.1 b.2 in
    let d = behind_name levels ys c.0 c.1 in (
      redeclared b.0 d.0,
      d.1,
      d.2,
      ap (λ l. keyword keywords.SelfWord ∷ l) (a.2 ∙ ap (λ l. mark marks.Backslash ∷ l)
          (b.3 ∙ ap (λ l. name b.0 ∷ l) (c.2 ∙ ap (λ l. mark marks.Dot ∷ l) d.3))),
    )

pub attribute_production : (levels : ℕ) (w : Word) → Production levels AnAttribute w
attribute_production levels (name n) = (tt, λ ws h. (own n, ap (λ l. name n ∷ l) h))
attribute_production levels (keyword keywords.SelfWord) = (
  (tt, (tt, (tt, (tt, tt)))),
  λ ws h.
      let r = redeclared_taken levels [] ws h in
      (r.0, r.3 ∙ ap (λ l. words_of_attribute r.0 ++ l) r.2 ∙ nothing (words_of_attribute r.0)),
)
  where
    nothing : (l : List Word) → l ++ [] ≡ l
    nothing l = append-nil l
attribute_production levels _ = tt

pub explicits_production : (levels : ℕ) (w : Word) → Production levels Explicits w
explicits_production levels (mark marks.Comma) = (
  (tt, (tt, tt)),
  λ ws h.
      let a : Takes levels AnAttribute h.0 = h.2 in
      let k = takes_one levels Explicits h.1 h.3 in (
        a.0 ∷ k.0,
        k.1,
        k.2,
        ap (λ l. mark marks.Comma ∷ l) (h.4 ∙ (λ i. a.1 i ++ k.3 i)
            ∙ sym (append_assoc (words_of_attribute a.0) (words_of_more_attributes k.0) (mark marks.Colon ∷ k.1))),
      ),
)
explicits_production levels (mark marks.Colon) =
    ((tt, tt), λ ws h. ([], ws, takes_one levels OptionalDataType ws h, refl))
explicits_production levels _ = tt

-- an attribute and others, up to a semicolon
others_taken : (levels : ℕ) (ws : List Word) → AllTake levels (AnAttribute ∷ Uniques ∷ []) ws → (a : Attribute)
    × (xs : List Attribute) × (ws ≡ (words_of_attribute a ++ words_of_more_attributes xs) ++ mark marks.Semicolon ∷ [])
others_taken levels ws h =
    let a : Takes levels AnAttribute h.0 = h.2 in
    let k = takes_one levels Uniques h.1 h.3 in (
      a.0,
      k.0,
      h.4 ∙ (λ i. a.1 i ++ k.1 i) ∙ sym (append_assoc (words_of_attribute a.0) (words_of_more_attributes k.0)
          (mark marks.Semicolon ∷ [])),
    )

pub uniques_production : (levels : ℕ) (w : Word) → Production levels Uniques w
uniques_production levels (mark marks.Comma) = (
  (tt, (tt, tt)),
  λ ws h. let k = others_taken levels ws h in
      (k.0 ∷ k.1, ap (λ l. mark marks.Comma ∷ l) k.2),
)
uniques_production levels (mark marks.Semicolon) = (tt, λ ws h. ([], ap (λ l. mark marks.Semicolon ∷ l) h))
uniques_production levels _ = tt

unique_named_from : (levels : ℕ) (w : Word) (v : Next) → Answer levels Uniques w v → Answer levels UniqueNamed w v
unique_named_from levels w (Err k) f = tt
unique_named_from levels w (Ok zs) f = (
  f.0,
  λ ws h n. let k = f.1 ws h in (
    record {
      label = None;
      attributes = own n ∷ k.0;
    },
    tt,
    ap (λ l. name n ∷ l) k.1,
  ),
)

pub unique_named_production : (levels : ℕ) (w : Word) → Production levels UniqueNamed w
unique_named_production levels (mark marks.Colon) = (
  (tt, (tt, tt)),
  λ ws h n. let k = others_taken levels ws h in
      (record { label = Some n; attributes = k.0 ∷ k.1 }, tt, ap (λ l. name n ∷ mark marks.Colon ∷ l) k.2),
)
unique_named_production levels w = unique_named_from levels w (next_uniques (token w)) (uniques_production levels w)

pub holder_production : (levels : ℕ) (w : Word) → Production levels Holder w
holder_production levels (mark marks.Dot) = (
  (tt, (tt, tt)),
  λ ws h.
      let b = behind_name levels (Just marks.Semicolon ∷ []) ws h in
      inr (
        b.0,
        ap (λ l. mark marks.Dot ∷ l)
            (b.3 ∙ ap (λ l. name b.0 ∷ l) (takes_one levels (Just marks.Semicolon) b.1 b.2)),
      ),
)
holder_production levels (mark marks.Semicolon) = (tt, λ ws h. inl (ap (λ l. mark marks.Semicolon ∷ l) h))
holder_production levels _ = tt

inverted_from : (levels : ℕ) (w : Word) (v : Next) → Answer levels Id w v → Answer levels Inverted w v
inverted_from levels w (Err k) f = tt
inverted_from levels w (Ok zs) f = (f.0, λ ws h. let k = f.1 ws h in (alone, k.0, tt, k.1))

pub inverted_production : (levels : ℕ) (w : Word) → Production levels Inverted w
inverted_production levels (keyword keywords.Set) = (
  (tt, (tt, tt)),
  λ ws h.
      let b = behind_bounds levels 0 Id ws h in
      let n : Takes levels Id b.1 = b.3 in (
        in_set b.0,
        n.0,
        b.2,
        ap (λ l. keyword keywords.Set ∷ l)
            (b.4 ∙ ap (λ l. words_of_some_bounds b.0 ++ keyword keywords.Of ∷ l) n.1
            ∙ sym (append_assoc (words_of_some_bounds b.0) (keyword keywords.Of ∷ []) (name n.0 ∷ []))),
      ),
)
inverted_production levels (keyword keywords.Bag) = (
  (tt, (tt, tt)),
  λ ws h.
      let b = behind_bounds levels 0 Id ws h in
      let n : Takes levels Id b.1 = b.3 in (
        in_bag b.0,
        n.0,
        b.2,
        ap (λ l. keyword keywords.Bag ∷ l)
            (b.4 ∙ ap (λ l. words_of_some_bounds b.0 ++ keyword keywords.Of ∷ l) n.1
            ∙ sym (append_assoc (words_of_some_bounds b.0) (keyword keywords.Of ∷ []) (name n.0 ∷ []))),
      ),
)
inverted_production levels w = inverted_from levels w (next_id (token w)) (id_production levels w)

-- clauses that don't stand
skip_derived : (levels : ℕ) (ws : List Word) → BehindDerived levels ws → BehindExplicits levels ws
skip_derived levels ws h = (None, ws, tt, h, refl)

skip_inverses : (levels : ℕ) (ws : List Word) → BehindInverses levels ws → BehindDerived levels ws
skip_inverses levels ws h = (None, ws, tt, h, refl)

skip_uniques : (levels : ℕ) (ws : List Word) → BehindUniques levels ws → BehindInverses levels ws
skip_uniques levels ws h = (None, ws, tt, h, refl)

-- clauses that are present
with_derived : (levels : ℕ) (ws : List Word) → OfBody levels derived ws
    → BehindExplicits levels (keyword keywords.Derive ∷ ws)
with_derived levels ws h = (Some h.0, h.1, h.2, h.3, ap (λ l. keyword keywords.Derive ∷ l) h.4)

with_inverses : (levels : ℕ) (ws : List Word) → OfBody levels inverses ws
    → BehindDerived levels (keyword keywords.Inverse ∷ ws)
with_inverses levels ws h = (Some h.0, h.1, h.2, h.3, ap (λ l. keyword keywords.Inverse ∷ l) h.4)

with_uniques : (levels : ℕ) (ws : List Word) → OfBody levels uniques ws → BehindInverses levels (keyword keywords.Unique
    ∷ ws)
with_uniques levels ws h = (Some h.0, h.1, h.2, h.3, ap (λ l. keyword keywords.Unique ∷ l) h.4)

-- no more of a clause
from_uniques : (levels : ℕ) (c : Clause) (ws : List Word) → BehindUniques levels ws → OfBody levels c ws
from_uniques levels explicits ws h = (
  [],
  ws,
  tt,
  skip_derived levels ws
      (skip_inverses levels ws (skip_uniques levels ws h)),
  refl,
)
from_uniques levels derived ws h = ([], ws, tt, skip_inverses levels ws (skip_uniques levels ws h), refl)
from_uniques levels inverses ws h = ([], ws, tt, skip_uniques levels ws h, refl)
from_uniques levels uniques ws h = ([], ws, tt, h, refl)

spread_explicit : (a m x j v : List Word) (c : Word) → a ++ ((m ++ c ∷ x) ++ (j ++ v)) ≡ (((a ++ m) ++ c ∷ x) ++ j) ++ v
spread_explicit a m x j v c = simp append_assoc

explicit_taken : (levels : ℕ) (a : Attribute) (ws : List Word) → AllTake levels (Explicits ∷ Body explicits ∷ []) ws
    → OfBody levels explicits (words_of_attribute a ++ ws)
explicit_taken levels a ws h =
    let x : Takes levels Explicits h.0 = h.2 in
    let k = x.2 in
    let b = takes_one levels (Body explicits) h.1 h.3 in
    let e : Explicit = record { attributes = a ∷ x.0; optional = k.0; data_type = k.1 } in
    let inner : List Word = said keywords.Optional k.0 ++ words_of_data_type k.1 ++ mark marks.Semicolon ∷ [] in
    let f : h.0 ≡ words_of_more_attributes x.0 ++ mark marks.Colon ∷ inner = x.3
    ∙ ap (λ l. words_of_more_attributes x.0 ++ mark marks.Colon ∷ l) k.3 in (
      e ∷ b.0,
      b.1,
      ((tt, k.2), b.2),
      b.3,
      ap (λ l. words_of_attribute a ++ l) (h.4 ∙ (λ i. f i ++ b.4 i)) ∙ spread_explicit (words_of_attribute a)
          (words_of_more_attributes x.0) inner (concatenated (map words_of_explicit b.0)) b.1 (mark marks.Colon),
    )

spread_derived : (a k b j v : List Word) (c d s : Word) → a ++ c
    ∷ ((k ++ d ∷ []) ++ ((b ++ s ∷ []) ++ (j ++ v))) ≡ ((a ++ c ∷ (k ++ d ∷ (b ++ s ∷ []))) ++ j) ++ v
spread_derived a k b j v c d s = simp append_assoc

derived_taken : (levels : ℕ) (a : Attribute) (ws : List Word)
    → AllTake levels (Just marks.Colon ∷ DataTypeThen 0 assignment ∷ Running in_rule 0 [] false ∷ Body derived ∷ []) ws
    → OfBody levels derived (words_of_attribute a ++ ws)
derived_taken levels a ws h =
    let c = behind_mark levels marks.Colon (DataTypeThen 0 assignment ∷ Running in_rule 0 [] false ∷ Body derived ∷ [])
    ws h in
    let k : AllTake levels (DataTypeThen 0 assignment ∷ Running in_rule 0 [] false ∷ Body derived ∷ []) c.0 = c.1 in
    let kind : Takes levels (DataTypeThen 0 assignment) k.0 = k.2 in
    let m : AllTake levels (Running in_rule 0 [] false ∷ Body derived ∷ []) k.1 = k.3 in
    let r : Takes levels (Running in_rule 0 [] false) m.0 = m.2 in
    let y = body_of levels r.0 r.1 (r.2 refl) in
    let b = takes_one levels (Body derived) m.1 m.3 in
    let x : Derived = record { attribute = a; data_type = kind.0; body = y.0 } in
    let f : m.0 ≡ words_of_body y.0 ++ mark marks.Semicolon ∷ [] = r.3 ∙ ap (λ l. l ++ mark marks.Semicolon ∷ [])
    (sym y.2) in
    let g : k.1 ≡ (words_of_body y.0 ++ mark marks.Semicolon ∷ []) ++ (concatenated (map words_of_derived b.0) ++ b.1) = m.4
    ∙ (λ i. f i ++ b.4 i) in (
      x ∷ b.0,
      b.1,
      ((kind.1, y.1), b.2),
      b.3,
      ap (λ l. words_of_attribute a ++ l) (c.2 ∙ ap (λ l. mark marks.Colon ∷ l) (k.4 ∙ (λ i. kind.2 i ++ g i)))
          ∙ spread_derived (words_of_attribute a) (words_of_data_type kind.0) (words_of_body y.0)
          (concatenated (map words_of_derived b.0)) b.1 (mark marks.Colon) (mark marks.Assign) (mark marks.Semicolon),
    )

-- the attribute that is inverted, with its entity if it is said
held_by : (levels : ℕ) (x : List ℕ) (u : List Word) → Takes levels Holder u → (o : Option (List ℕ)) × (n : List ℕ)
    × (name x ∷ u ≡ words_of_holder o ++ name n ∷ mark marks.Semicolon ∷ [])
held_by levels x u (inl e) = (None, x, ap (λ l. name x ∷ l) e)
held_by levels x u (inr h) = (Some x, h.0, ap (λ l. name x ∷ l) h.1)

spread_inverse : (a c t j v : List Word) (m n f : Word) → a ++ m
    ∷ ((c ++ n ∷ []) ++ f ∷ (t ++ (j ++ v))) ≡ ((a ++ m ∷ (c ++ n ∷ f ∷ t)) ++ j) ++ v
spread_inverse a c t j v m n f = simp append_assoc

inverse_taken : (levels : ℕ) (a : Attribute) (ws : List Word) → AllTake levels (Just marks.Colon ∷ Inverted
    ∷ Say keywords.For ∷ Id ∷ Holder ∷ Body inverses ∷ []) ws → OfBody levels inverses (words_of_attribute a ++ ws)
inverse_taken levels a ws h =
    let c = behind_mark levels marks.Colon (Inverted ∷ Say keywords.For ∷ Id ∷ Holder ∷ Body inverses ∷ []) ws h in
    let k : AllTake levels (Inverted ∷ Say keywords.For ∷ Id ∷ Holder ∷ Body inverses ∷ []) c.0 = c.1 in
    let i : Takes levels Inverted k.0 = k.2 in
    let o = behind_word levels keywords.For (Id ∷ Holder ∷ Body inverses ∷ []) k.1 k.3 in
    let n = behind_name levels (Holder ∷ Body inverses ∷ []) o.0 o.1 in
    let m : AllTake levels (Holder ∷ Body inverses ∷ []) n.1 = n.2 in
    let t = held_by levels n.0 m.0 m.2 in
    let b = takes_one levels (Body inverses) m.1 m.3 in
    let x : Inverse = record { attribute = a; collection = i.0; entity = i.1; holder = t.0; inverted = t.1 } in
    let inner : List Word = words_of_holder t.0 ++ name t.1 ∷ mark marks.Semicolon ∷ [] in
    let f : o.0 ≡ inner ++ (concatenated (map words_of_inverse b.0) ++ b.1) = n.3 ∙ ap (λ l. name n.0 ∷ l) m.4
    ∙ (λ j. t.2 j ++ b.4 j) in
    let g : k.1 ≡ keyword keywords.For ∷ (inner ++ (concatenated (map words_of_inverse b.0) ++ b.1)) = o.2
    ∙ ap (λ l. keyword keywords.For ∷ l) f in (
      x ∷ b.0,
      b.1,
      (i.2, b.2),
      b.3,
      ap (λ l. words_of_attribute a ++ l) (c.2 ∙ ap (λ l. mark marks.Colon ∷ l) (k.4 ∙ (λ j. i.3 j ++ g j)))
          ∙ spread_inverse (words_of_attribute a) (words_of_collection i.0) inner (concatenated (map words_of_inverse b.0))
          b.1 (mark marks.Colon) (name i.1) (keyword keywords.For),
    )

unique_named_taken : (levels : ℕ) (n : List ℕ) (ws : List Word) → AllTake levels (UniqueNamed ∷ Body uniques ∷ []) ws
    → OfBody levels uniques (name n ∷ ws)
unique_named_taken levels n ws h =
    let f : Takes levels UniqueNamed h.0 = h.2 in
    let u = f n in
    let b = takes_one levels (Body uniques) h.1 h.3 in (
      u.0 ∷ b.0,
      b.1,
      (u.1, b.2),
      b.3,
      ap (λ l. name n ∷ l) h.4 ∙ (λ i. u.2 i ++ b.4 i)
          ∙ sym (append_assoc (words_of_unique u.0) (concatenated (map words_of_unique b.0)) b.1),
    )

spread_unique : (a m j v : List Word) (s : Word) → a ++ ((m ++ s ∷ []) ++ (j ++ v)) ≡ (((a ++ m) ++ s ∷ []) ++ j) ++ v
spread_unique a m j v s = simp append_assoc

unique_taken : (levels : ℕ) (a : Attribute) (ws : List Word) → AllTake levels (Uniques ∷ Body uniques ∷ []) ws
    → OfBody levels uniques (words_of_attribute a ++ ws)
unique_taken levels a ws h =
    let x : Takes levels Uniques h.0 = h.2 in
    let b = takes_one levels (Body uniques) h.1 h.3 in
    let u : Unique = record { label = None; attributes = a ∷ x.0 } in (
      u ∷ b.0,
      b.1,
      (tt, b.2),
      b.3,
      ap (λ l. words_of_attribute a ++ l) (h.4 ∙ (λ i. x.1 i ++ b.4 i))
          ∙ spread_unique (words_of_attribute a) (words_of_more_attributes x.0) (concatenated (map words_of_unique b.0)) b.1
          (mark marks.Semicolon),
    )

-- an item of a clause after SELF
redeclared_body : (levels : ℕ) (c : Clause) (ys : List Symbol) (ws : List Word)
    → ((a : Attribute) (v : List Word) → AllTake levels ys v → OfBody levels c (words_of_attribute a ++ v))
    → AllTake levels (Just marks.Backslash ∷ Id ∷ Just marks.Dot ∷ Id ∷ ys) ws
    → OfBody levels c (keyword keywords.SelfWord ∷ ws)
redeclared_body levels c ys ws f h =
    let r = redeclared_taken levels ys ws h in
    by (keyword keywords.SelfWord ∷ ws) (words_of_attribute r.0 ++ r.1) r.3 (f r.0 r.1 r.2)
  where
    by : (u v : List Word) → u ≡ v → OfBody levels c v → OfBody levels c u
    by u v e h = let P : List Word → Type 0 = λ l. OfBody levels c l in subst P (sym e) h

pub body_production : (levels : ℕ) (c : Clause) (w : Word) → Production levels (Body c) w
body_production levels explicits (name n) = ((tt, (tt, tt)), λ ws h. explicit_taken levels (own n) ws h)
body_production levels derived (name n) = ((tt, (tt, (tt, (tt, tt)))), λ ws h. derived_taken levels (own n) ws h)
body_production levels inverses (name n) = (
  (tt, (tt, (tt, (tt, (tt, (tt, tt)))))),
  λ ws h. inverse_taken levels (own n)
      ws h,
)
body_production levels uniques (name n) = ((tt, (tt, tt)), λ ws h. unique_named_taken levels n ws h)
body_production levels explicits (keyword keywords.SelfWord) = (
  (tt, (tt, (tt, (tt, (tt, (tt, tt)))))),
  λ ws h. redeclared_body levels explicits (Explicits ∷ Body explicits ∷ []) ws (λ a v k. explicit_taken levels a v k)
      h,
)
body_production levels derived (keyword keywords.SelfWord) = (
  (tt, (tt, (tt, (tt, (tt, (tt, (tt, (tt, tt)))))))),
  λ ws h. redeclared_body levels derived (Just marks.Colon ∷ DataTypeThen 0 assignment ∷ Running in_rule 0 [] false
      ∷ Body derived ∷ []) ws (λ a v k. derived_taken levels a v k) h,
)
body_production levels inverses (keyword keywords.SelfWord) = (
  (tt, (tt, (tt, (tt, (tt, (tt, (tt, (tt, (tt, (tt, tt)))))))))),
  λ ws h. redeclared_body levels inverses
      (Just marks.Colon ∷ Inverted ∷ Say keywords.For ∷ Id ∷ Holder ∷ Body inverses ∷ []) ws
      (λ a v k. inverse_taken levels a v k) h,
)
body_production levels uniques (keyword keywords.SelfWord) = (
  (tt, (tt, (tt, (tt, (tt, (tt, tt)))))),
  λ ws h. redeclared_body levels uniques (Uniques ∷ Body uniques ∷ []) ws (λ a v k. unique_taken levels a v k) h,
)
body_production levels explicits (keyword keywords.Derive) = (
  (tt, tt),
  λ ws h. (
    [],
    keyword keywords.Derive ∷ ws,
    tt,
    with_derived levels ws
        (takes_one levels (Body derived) ws h),
    refl,
  ),
)
body_production levels explicits (keyword keywords.Inverse) = (
  (tt, tt),
  λ ws h. let l : List Word = keyword keywords.Inverse ∷ ws in
      ([], l, tt, skip_derived levels l (with_inverses levels ws (takes_one levels (Body inverses) ws h)), refl),
)
body_production levels explicits (keyword keywords.Unique) = (
  (tt, tt),
  λ ws h. let l : List Word = keyword keywords.Unique ∷ ws in (
    [],
    l,
    tt,
    skip_derived levels l (skip_inverses levels l
        (with_uniques levels ws (takes_one levels (Body uniques) ws h))),
    refl,
  ),
)
body_production levels derived (keyword keywords.Derive) = tt
body_production levels derived (keyword keywords.Inverse) = (
  (tt, tt),
  λ ws h. (
    [],
    keyword keywords.Inverse ∷ ws,
    tt,
    with_inverses levels ws
        (takes_one levels (Body inverses) ws h),
    refl,
  ),
)
body_production levels derived (keyword keywords.Unique) = (
  (tt, tt),
  λ ws h. let l : List Word = keyword keywords.Unique ∷ ws in
      ([], l, tt, skip_inverses levels l (with_uniques levels ws (takes_one levels (Body uniques) ws h)), refl),
)
body_production levels inverses (keyword keywords.Derive) = tt
body_production levels inverses (keyword keywords.Inverse) = tt
body_production levels inverses (keyword keywords.Unique) = (
  (tt, tt),
  λ ws h. (
    [],
    keyword keywords.Unique ∷ ws,
    tt,
    with_uniques levels ws
        (takes_one levels (Body uniques) ws h),
    refl,
  ),
)
body_production levels uniques (keyword keywords.Derive) = tt
body_production levels uniques (keyword keywords.Inverse) = tt
body_production levels uniques (keyword keywords.Unique) = tt
body_production levels c (keyword keywords.Where) = (
  (tt, tt),
  λ ws h. let r = takes_one levels (Rules keywords.EndEntity) ws h in from_uniques levels c
      (keyword keywords.Where ∷ ws) (Some r.0, r.1, ap (λ l. keyword keywords.Where ∷ l) r.2),
)
body_production levels c (keyword keywords.EndEntity) = (
  (tt, tt),
  λ ws h. from_uniques levels c (keyword keywords.EndEntity ∷ ws)
      (None, tt, ap (λ l. keyword keywords.EndEntity ∷ l) (takes_one levels (Just marks.Semicolon) ws h)),
)
body_production levels c _ = tt
