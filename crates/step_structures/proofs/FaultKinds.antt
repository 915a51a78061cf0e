-- The kind of fault that the table gives is the kind that is due, and no other is.
use Rattle.std.proofs.Common.{◌≡◌, ℕ, Bool, true, false, List, [], ◌∷◌, ◌++◌, Ok, Err, refl, sym, ap, ◌∙◌, subst, ◌⊎◌, inl, inr, arith, codes}
use Rattle.std.specs.Str.{str_to_ascii_lowercase}
use Rattle.std.proofs.lemmas.Slice.Eq.{bytes_eq-Decides}
use Rattle.parsing.specs.Tables.{lookaheads}
use Rattle.parsing.specs.Languages as languages
use Rattle.parsing.proofs.Leading.{Leads}
use Rattle.parsing.proofs.Running.{reaches_keeps}
use Rattle.parsing.proofs.Wider.{goes_on_wider}
use Rattle.step_structures.specs.declared.fault.FaultKind.{FaultKind}
use Rattle.step_structures.specs.declared.fault.FaultKind.TheVariants as kinds
use Rattle.step_structures.specs.declared.fault.LeftOut.{LeftOut}
use Rattle.step_structures.specs.declared.fault.LeftOut.TheVariants as left_out
use Rattle.step_structures.specs.Words.{keyword, user_defined, scope, Lookahead, token, flawed, LocatedToken}
use Rattle.step_structures.specs.Trees.{is_said}
use Rattle.step_structures.specs.Fits.{StructureRules, the_rules}
use Rattle.step_structures.specs.Texts.{HoldsSchema, IsViablePrefix, EndsFile, IsWord, IsBetween, IsLeftOut, more_levels, more_parts, repeated, unheaded, FaultApplies, IsKind}
use Rattle.step_structures.specs.steps.Predict.{Symbol, EndOfText, Next, refused, next, section_kind, file_symbols, table, IsFile}
use Rattle.step_structures.proofs.Meeting.{one_more}
use Rattle.step_structures.proofs.Looser.{IsLooser, levels_looser, parts_looser, repeated_looser, unheaded_looser}
use Rattle.step_structures.proofs.Forms.{Little, IsBehindSections}
use Rattle.step_structures.proofs.Complete.{complete, starts, exact}
use Rattle.step_structures.proofs.Wider.{looser_self, wider}
use Rattle.step_structures.proofs.Schemas.{holds_stricter, holds_behind}
use Rattle.step_structures.proofs.Prefixes.{front_of, of_front}
use Rattle.step_structures.proofs.Sections.{between_ends, ended_file, section_to_come, end_to_come}
use Rattle.step_structures.proofs.Reasons.{Can, NoSemicolon, Why, why}

-- what no structure has
abbrev pub IsOdd : Lookahead → Type 0
IsOdd (flawed f) = Unit {0}
IsOdd (token (user_defined text)) = Unit {0}
IsOdd (token scope) = Unit {0}
IsOdd _ = ⊥

pub odd_refused : (y : Symbol) (s : Lookahead) → IsOdd s → table y s ≡ Err (refused s)
odd_refused EndOfText (flawed f) o = refl
odd_refused _ (flawed f) o = refl
odd_refused EndOfText (token (user_defined text)) o = refl
odd_refused _ (token (user_defined text)) o = refl
odd_refused EndOfText (token scope) o = refl
odd_refused _ (token scope) o = refl
odd_refused y s o = absurd o

-- a keyword is one word
not_said : (v w text : List ℕ) → is_said v w ≡ false → is_said w text ≡ true → is_said v text ≡ false
not_said v w text apart h = by (is_said v text) refl
  where
    by : (b : Bool) → is_said v text ≡ b → b ≡ false
    by false e = refl
    by true e =
        let a = (bytes_eq-Decides (str_to_ascii_lowercase v) (str_to_ascii_lowercase text)).0 e in
        let b = (bytes_eq-Decides (str_to_ascii_lowercase w) (str_to_ascii_lowercase text)).0 h in
        let same : is_said v w ≡ true = (bytes_eq-Decides (str_to_ascii_lowercase v) (str_to_ascii_lowercase w)).1
        (a ∙ sym b) in
        let q : false ≡ true = sym apart ∙ same in absurd cc

-- the fault at a word with which a section that is left out begins
abbrev SaysPart : List ℕ → LeftOut → Type 0
SaysPart word part = (text : List ℕ) → is_said word text ≡ true → (is_said (codes "DATA") text ≡ false)
    × (section_kind text ≡ kinds.LeftOut part)

says_anchor : SaysPart (codes "ANCHOR") left_out.Anchor
says_anchor text h = (not_said (codes "DATA") (codes "ANCHOR") text refl h, rw h refl)

says_reference : SaysPart (codes "REFERENCE") left_out.Reference
says_reference text h = (
  not_said (codes "DATA") (codes "REFERENCE") text refl h,
  rw (not_said (codes "ANCHOR") (codes "REFERENCE") text refl h, h) refl,
)

says_signature : SaysPart (codes "SIGNATURE") left_out.Signature
says_signature text h = (
  not_said (codes "DATA") (codes "SIGNATURE") text refl h,
  rw (
    not_said (codes "ANCHOR") (codes "SIGNATURE") text refl h,
    not_said (codes "REFERENCE") (codes "SIGNATURE") text refl h,
    h,
  ) refl,
)

at_section : (y : Symbol) (text : List ℕ) → IsBehindSections y → is_said (codes "DATA") text ≡ false
    → table y (token (keyword text)) ≡ Err (section_kind text)
at_section y text e h = ap (λ z. table z (token (keyword text))) e.2 ∙ (rw h refl)

section_word : (y : Symbol) (s : Lookahead) (word : List ℕ) (part : LeftOut) → IsBehindSections y
    → SaysPart word part → IsWord word s → table y s ≡ Err (kinds.LeftOut part)
section_word y (token (keyword text)) word part h says w = let p = says text w in
    at_section y text h p.0 ∙ ap (λ k. Err k) p.1
section_word y s word part h says w = absurd w

end_signature : (s : Lookahead) → IsWord (codes "SIGNATURE") s → table EndOfText s ≡ Err
    (kinds.LeftOut left_out.Signature)
end_signature (token (keyword text)) w = rw w refl
end_signature s w = absurd w

-- what is left out begins with its word
left_anchor : (before : List Lookahead) (s : Lookahead) → IsWord (codes "ANCHOR") s × IsBetween before
    → IsLeftOut before s left_out.Anchor
left_anchor before (token (user_defined text)) h = absurd h.0
left_anchor before (token scope) h = absurd h.0
left_anchor before s h = h

left_reference : (before : List Lookahead) (s : Lookahead) → IsWord (codes "REFERENCE") s × IsBetween before
    → IsLeftOut before s left_out.Reference
left_reference before (token (user_defined text)) h = absurd h.0
left_reference before (token scope) h = absurd h.0
left_reference before s h = h

left_signature : (before : List Lookahead) (s : Lookahead) → IsWord (codes "SIGNATURE") s
    × (IsBetween before ⊎ EndsFile before) → IsLeftOut before s left_out.Signature
left_signature before (token (user_defined text)) h = absurd h.0
left_signature before (token scope) h = absurd h.0
left_signature before s h = h

due_anchor : (before : List Lookahead) (s : Lookahead) → IsLeftOut before s left_out.Anchor → IsWord (codes "ANCHOR")
    s × IsBetween before
due_anchor before (token (user_defined text)) h = h
due_anchor before (token scope) h = h
due_anchor before s h = h

due_reference : (before : List Lookahead) (s : Lookahead) → IsLeftOut before s left_out.Reference
    → IsWord (codes "REFERENCE") s × IsBetween before
due_reference before (token (user_defined text)) h = h
due_reference before (token scope) h = h
due_reference before s h = h

due_signature : (before : List Lookahead) (s : Lookahead) → IsLeftOut before s left_out.Signature
    → IsWord (codes "SIGNATURE") s × (IsBetween before ⊎ EndsFile before)
due_signature before (token (user_defined text)) h = h
due_signature before (token scope) h = h
due_signature before s h = h

due_user_defined : (before : List Lookahead) (s : Lookahead) → IsLeftOut before s left_out.UserDefined
    → (text : List ℕ) × (s ≡ token (user_defined text))
due_user_defined before (token (user_defined text)) h = (text, refl)
due_user_defined before (token scope) h = absurd h
due_user_defined before s h = absurd h

due_scope : (before : List Lookahead) (s : Lookahead) → IsLeftOut before s left_out.Scope → s ≡ token scope
due_scope before (token (user_defined text)) h = absurd h
due_scope before (token scope) h = refl
due_scope before s h = absurd h

due_large : (before : List Lookahead) (s : Lookahead) → IsLeftOut before s left_out.TooLarge → ⊥
due_large before (token (user_defined text)) h = h
due_large before (token scope) h = h
due_large before s h = h

parts_stricter : IsLooser more_parts repeated
parts_stricter = record {
  levels = omega arith;
  instances = omega arith;
  sections = omega arith;
  distinct = λ e. refl;
  headed = λ e. e;
}

same_err : (v : Next) (k l : FaultKind) → v ≡ Err k → v ≡ Err l → k ≡ l
same_err v k l e d = cc

-- only one kind of fault is due where one of the rules rules something out
names_only : (y : Symbol) (s : Lookahead) (k : FaultKind) → Why y s k → Can repeated y s
    → (Can more_parts y s → ⊥) → k ≡ kinds.DuplicateName
names_only y s kinds.DuplicateName w c n = refl
names_only y s (kinds.LeftOut left_out.TooMany) w c n = absurd (n w.0.by_many)
names_only y s _ w c n = absurd (w.0.by_names c)

many_only : (y : Symbol) (s : Lookahead) (k : FaultKind) → Why y s k → Can more_parts y s
    → k ≡ kinds.LeftOut left_out.TooMany
many_only y s (kinds.LeftOut left_out.TooMany) w c = refl
many_only y s _ w c = absurd (w.0.by_many c)

deep_only : (y : Symbol) (s : Lookahead) (k : FaultKind) → Why y s k → Can more_levels y s → k ≡ kinds.TooDeep
deep_only y s kinds.TooDeep w c = refl
deep_only y s (kinds.LeftOut left_out.TooMany) w c = absurd (w.0.by_depth c)
deep_only y s _ w c = absurd (w.0.by_depth c)

heads_only : (y : Symbol) (s : Lookahead) (k : FaultKind) → Why y s k → Can unheaded y s → k ≡ kinds.HeaderFault
heads_only y s kinds.HeaderFault w c = refl
heads_only y s (kinds.LeftOut left_out.TooMany) w c = absurd (w.0.by_heads c)
heads_only y s _ w c = absurd (w.0.by_heads c)

-- what stands first on the stack behind some tokens, and another token
module _ (before : List LocatedToken) (at : LocatedToken) (top : Symbol) (others : List Symbol)
    (reached : Leads table file_symbols (lookaheads before) (top ∷ others))
    (viable : IsViablePrefix the_rules (lookaheads before)) where
  abbrev ws : List Lookahead
  ws = lookaheads before

  abbrev s : Lookahead
  s = at.lookahead

  pub reason : (k : FaultKind) → table top s ≡ Err k → Why top s k
  reason k e = why top s k
      (reaches_keeps table (Little the_rules) (complete the_rules (omega arith) (omega arith)) before
      file_symbols (top ∷ others) (starts the_rules) reached).0 e

  -- with it they are a front where looser rules let it stand
  pub can : (w : StructureRules) → IsLooser the_rules w → Can w top s → languages.IsViablePrefix (IsFile w) (ws ++ s ∷ [])
  can w l c = subst (languages.IsViablePrefix (IsFile w)) (one_more before at) ((goes_on_wider table (next w)
      (wider the_rules w l) (Little w) file_symbols (IsFile w)
      (exact w (omega (arith, l.levels)) (omega (arith, l.sections))) before at top others
      reached).0 c)

  -- if looser rules make the tokens a prefix, they let the token come next
  could : (w : StructureRules) → IsLooser the_rules w → IsViablePrefix w (ws ++ s ∷ []) → Can w top s
  could w l v = (goes_on_wider table (next w) (wider the_rules w l) (Little w) file_symbols (IsFile w)
      (exact w (omega (arith, l.levels)) (omega (arith, l.sections))) before at top others reached).1
      (subst (languages.IsViablePrefix (IsFile w)) (sym (one_more before at)) (of_front w (ws ++ s ∷ []) v))

  holds_at : (w : StructureRules) → IsLooser the_rules w → NoSemicolon s → HoldsSchema w (ws ++ s ∷ [])
  holds_at w l o = holds_behind the_rules w l viable.file ws viable.rest s viable.fits viable.tokens viable.schema o

  is_between : IsBehindSections top → IsBetween ws
  is_between e = between_ends ws top others reached e

  between : IsBetween ws → IsBehindSections top
  between h = section_to_come ws top others reached h

  -- the table's kind is due
  pub is_due : (k : FaultKind) → table top s ≡ Err k → FaultApplies ws s k
  is_due (kinds.Token f) e = (reason (kinds.Token f) e).1
  is_due kinds.Expected e = tt
  is_due kinds.DuplicateName e =
      let w = reason kinds.DuplicateName e in (
        front_of repeated (ws ++ s ∷ []) (can repeated repeated_looser w.0.by_names) (holds_at repeated repeated_looser
            w.1),
        λ v. w.0.by_many (could more_parts parts_looser v),
      )
  is_due kinds.TooDeep e =
      let w = reason kinds.TooDeep e in
      front_of more_levels (ws ++ s ∷ []) (can more_levels levels_looser w.0.by_depth) (holds_at more_levels
      levels_looser w.1)
  is_due kinds.HeaderFault e = front_of unheaded (ws ++ s ∷ []) (can unheaded unheaded_looser
      (reason kinds.HeaderFault e).0.by_heads) tt
  is_due (kinds.LeftOut left_out.TooMany) e =
      let w = reason (kinds.LeftOut left_out.TooMany) e in
      front_of more_parts (ws ++ s ∷ []) (can more_parts parts_looser w.0.by_many) (holds_at more_parts
      parts_looser w.1)
  is_due (kinds.LeftOut left_out.UserDefined) e =
      let t = (reason (kinds.LeftOut left_out.UserDefined) e).1 in
      let P : Lookahead → Type 0 = λ x. IsLeftOut ws x left_out.UserDefined in subst P (sym t.1) tt
  is_due (kinds.LeftOut left_out.Scope) e =
      let t = (reason (kinds.LeftOut left_out.Scope) e).1 in
      let P : Lookahead → Type 0 = λ x. IsLeftOut ws x left_out.Scope in subst P (sym t) tt
  is_due (kinds.LeftOut left_out.Anchor) e =
      let t = (reason (kinds.LeftOut left_out.Anchor) e).1 in left_anchor ws s (t.0, is_between t.1)
  is_due (kinds.LeftOut left_out.Reference) e =
      let t = (reason (kinds.LeftOut left_out.Reference) e).1 in left_reference ws s (t.0, is_between t.1)
  is_due (kinds.LeftOut left_out.Signature) e = by (reason (kinds.LeftOut left_out.Signature) e).1
    where
      place : IsBehindSections top ⊎ (top ≡ EndOfText) → IsBetween ws ⊎ EndsFile ws
      place (inl d) = inl (is_between d)
      place (inr d) = inr (ended_file ws top others reached d)

      by : IsWord (codes "SIGNATURE") s × (IsBehindSections top ⊎ (top ≡ EndOfText))
          → IsLeftOut ws s left_out.Signature
      by t = left_signature ws s (t.0, place t.1)
  is_due (kinds.LeftOut left_out.TooLarge) e = absurd (reason (kinds.LeftOut left_out.TooLarge) e).1

  -- a part that is left out is told by the table
  left_told : (part : LeftOut) → (part ≡ left_out.TooMany → ⊥) → IsLeftOut ws s part → table top s ≡ Err
      (kinds.LeftOut part)
  left_told left_out.UserDefined n h = let t = due_user_defined ws s h in
      ap (table top) t.1 ∙ odd_refused top (token (user_defined t.0)) tt
  left_told left_out.Scope n h = ap (table top) (due_scope ws s h) ∙ odd_refused top (token scope) tt
  left_told left_out.Anchor n h = let d = due_anchor ws s h in
      section_word top s (codes "ANCHOR") left_out.Anchor (between d.1) says_anchor d.0
  left_told left_out.Reference n h = let d = due_reference ws s h in
      section_word top s (codes "REFERENCE") left_out.Reference (between d.1) says_reference d.0
  left_told left_out.Signature n h = by (due_signature ws s h)
    where
      by : IsWord (codes "SIGNATURE") s × (IsBetween ws ⊎ EndsFile ws) → table top s ≡ Err
          (kinds.LeftOut left_out.Signature)
      by (w, inl b) = section_word top s (codes "SIGNATURE") left_out.Signature (between b) says_signature w
      by (w, inr b) = ap (λ y. table y s) (end_to_come ws top others b reached) ∙ end_signature s w
  left_told left_out.TooMany n h = absurd (n refl)
  left_told left_out.TooLarge n h = absurd (due_large ws s h)

  -- no other kind of fault applies than the one that the table reports, except Expected
  pub only_due : (k : FaultKind) → table top s ≡ Err k → (other : FaultKind) → (other ≡ kinds.Expected → ⊥)
      → FaultApplies ws s other → k ≡ other
  only_due k e (kinds.Token f) n h = same_err (table top s) k (kinds.Token f) e (ap (table top) h
      ∙ odd_refused top (flawed f) tt)
  only_due k e kinds.Expected n h = absurd (n refl)
  only_due k e kinds.DuplicateName n h =
      names_only top s k (reason k e) (could repeated repeated_looser h.0) (λ c. h.1 (front_of more_parts
      (ws ++ s ∷ []) (can more_parts parts_looser c) (holds_stricter more_parts repeated parts_stricter
      (ws ++ s ∷ []) h.0.schema)))
  only_due k e kinds.TooDeep n h = deep_only top s k (reason k e) (could more_levels levels_looser h)
  only_due k e kinds.HeaderFault n h = heads_only top s k (reason k e) (could unheaded unheaded_looser h)
  only_due k e (kinds.LeftOut left_out.TooMany) n h = many_only top s k (reason k e)
      (could more_parts parts_looser h)
  only_due k e (kinds.LeftOut part) n h = same_err (table top s) k (kinds.LeftOut part) e (left_told part (λ d. cc) h)

  -- so it is the fault's
  pub kind_of : (k : FaultKind) → table top s ≡ Err k → IsKind ws s k
  kind_of (kinds.Token f) e = is_due (kinds.Token f) e
  kind_of (kinds.LeftOut part) e = is_due (kinds.LeftOut part) e
  kind_of kinds.DuplicateName e = is_due kinds.DuplicateName e
  kind_of kinds.TooDeep e = is_due kinds.TooDeep e
  kind_of kinds.HeaderFault e = is_due kinds.HeaderFault e
  kind_of kinds.Expected e = λ other n h. n (sym (only_due kinds.Expected e other n h))

  -- the fault's kind is the one that the table reports
  pub kind_is : (k other : FaultKind) → table top s ≡ Err k → IsKind ws s other → k ≡ other
  kind_is k (kinds.Token f) e h = only_due k e (kinds.Token f) (λ d. cc) h
  kind_is k (kinds.LeftOut part) e h = only_due k e (kinds.LeftOut part) (λ d. cc) h
  kind_is k kinds.DuplicateName e h = only_due k e kinds.DuplicateName (λ d. cc) h
  kind_is k kinds.TooDeep e h = only_due k e kinds.TooDeep (λ d. cc) h
  kind_is k kinds.HeaderFault e h = only_due k e kinds.HeaderFault (λ d. cc) h
  kind_is kinds.Expected kinds.Expected e h = refl
  kind_is (kinds.Token f) kinds.Expected e h = absurd (h (kinds.Token f) (λ d. cc) (is_due (kinds.Token f) e))
  kind_is (kinds.LeftOut part) kinds.Expected e h = absurd (h (kinds.LeftOut part) (λ d. cc)
      (is_due (kinds.LeftOut part) e))
  kind_is kinds.DuplicateName kinds.Expected e h = absurd (h kinds.DuplicateName (λ d. cc)
      (is_due kinds.DuplicateName e))
  kind_is kinds.TooDeep kinds.Expected e h = absurd (h kinds.TooDeep (λ d. cc) (is_due kinds.TooDeep e))
  kind_is kinds.HeaderFault kinds.Expected e h = absurd (h kinds.HeaderFault (λ d. cc) (is_due kinds.HeaderFault e))

  -- A semicolon may stand there, and the third record that it ends names no schema: that is a fault of the header.
  module _ (zs : List Symbol) (goes : table top s ≡ Ok zs) (unnamed : HoldsSchema the_rules (ws ++ s ∷ []) → ⊥) where
    semicolon : NoSemicolon s → ⊥
    semicolon o = unnamed (holds_at the_rules (looser_self the_rules) o)

    stops_not : (k : FaultKind) → table top s ≡ Err k → ⊥
    stops_not k e = let q : (let v : Next = Ok zs in v) ≡ Err k = sym goes ∙ e in cc

    pub unnamed_kind : (k : FaultKind) → IsKind ws s k → k ≡ kinds.HeaderFault
    unnamed_kind kinds.HeaderFault h = refl
    unnamed_kind (kinds.Token f) h = absurd (stops_not (kinds.Token f) (ap (table top) h ∙ odd_refused top (flawed f)
        tt))
    unnamed_kind kinds.DuplicateName h = absurd (unnamed (holds_stricter the_rules repeated repeated_looser
        (ws ++ s ∷ []) h.0.schema))
    unnamed_kind kinds.TooDeep h = absurd (unnamed (holds_stricter the_rules more_levels levels_looser (ws ++ s ∷ [])
        h.schema))
    unnamed_kind (kinds.LeftOut left_out.TooMany) h = absurd (unnamed (holds_stricter the_rules more_parts
        parts_looser (ws ++ s ∷ []) h.schema))
    unnamed_kind (kinds.LeftOut part) h = absurd (stops_not (kinds.LeftOut part) (left_told part (λ d. cc) h))
    unnamed_kind kinds.Expected h = absurd (h kinds.HeaderFault (λ d. cc) (front_of unheaded (ws ++ s ∷ [])
        (can unheaded unheaded_looser (zs, wider the_rules unheaded unheaded_looser top s zs goes)) tt))
