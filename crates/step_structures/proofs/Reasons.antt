-- Why something can't be next: which of the rules rules it out, if any does.
use Rattle.std.proofs.Common.{◌≡◌, ℕ, ◌+◌, ◌≤◌, nat_lt, Bool, true, false, ◌&&◌, if◌then◌else◌, List, Ok, Err, refl, sym, ◌∙◌, subst, arith}
use Rattle.step_lexer.specs.declared.token.Mark.TheVariants.{Semicolon}
use Rattle.step_structures.specs.declared.fault.FaultKind.{FaultKind}
use Rattle.step_structures.specs.declared.fault.FaultKind.TheVariants as kinds
use Rattle.step_structures.specs.declared.fault.LeftOut.TheVariants as left_out
use Rattle.step_structures.specs.Words.{mark, Lookahead, token}
use Rattle.step_structures.specs.Fits.{StructureRules, the_rules}
use Rattle.step_structures.specs.Texts.{more_levels, more_parts, repeated, unheaded}
use Rattle.step_structures.specs.steps.Predict.{Symbol, Next, next}
use Rattle.step_structures.proofs.Forms.{Form, fixed, by_level, by_section, by_head, by_keyword, by_name, form, Little, Told, ToldBy}

-- under these rules it could be next
abbrev pub Can : StructureRules → Symbol → Lookahead → Type 0
Can w y s = (zs : List Symbol) × (next w y s ≡ Ok zs)

abbrev pub If : Bool → Type 0 → Type 0
If true A = A
If false A = A → ⊥

-- which of the relaxed rules let it be next
pub record Lets (y : Symbol) (s : Lookahead) (names many deep heads : Bool) : Type 0 where
  pub by_names : If names (Can repeated y s)
  pub by_many : If many (Can more_parts y s)
  pub by_depth : If deep (Can more_levels y s)
  pub by_heads : If heads (Can unheaded y s)

abbrev pub NoSemicolon : Lookahead → Type 0
NoSemicolon s = s ≡ token (mark Semicolon) → ⊥

abbrev pub Why : Symbol → Lookahead → FaultKind → Type 0
Why y s kinds.DuplicateName = Lets y s true false false false × NoSemicolon s
Why y s (kinds.LeftOut left_out.TooMany) = Lets y s true true false false × NoSemicolon s
Why y s kinds.TooDeep = Lets y s false false true false × NoSemicolon s
Why y s kinds.HeaderFault = Lets y s false false false true × NoSemicolon s
Why y s k = Lets y s false false false false × Told y s k

refuses : (w : StructureRules) (y : Symbol) (s : Lookahead) (v : Next) (k : FaultKind) → next w y s ≡ v → v ≡ Err k
    → Can w y s → ⊥
refuses w y s v k e d c = let q : (let n : Next = Ok c.0 in n) ≡ Err k = sym c.1 ∙ e ∙ d in cc

below : (n a : ℕ) → n ≤ a → nat_lt n (a + 1) ≡ true
below n a h = grind arith

why_told : (y : Symbol) (s : Lookahead) (k : FaultKind) → Lets y s false false false false → Told y s k → Why y s k
why_told y s kinds.TooDeep l t = absurd t
why_told y s kinds.HeaderFault l t = absurd t
why_told y s kinds.DuplicateName l t = absurd t
why_told y s (kinds.LeftOut left_out.TooMany) l t = absurd t
why_told y s k l t = (l, t)

why_fixed : (y : Symbol) (s : Lookahead) (v : Next) (k : FaultKind) → ((w : StructureRules) → next w y s ≡ v) → ToldBy y s v
    → v ≡ Err k → Why y s k
why_fixed y s v k h t e = why_told y s k (record {
  by_names = refuses repeated y s v k (h repeated) e;
  by_many = refuses more_parts y s v k (h more_parts) e;
  by_depth = refuses more_levels y s v k (h more_levels) e;
  by_heads = refuses unheaded y s v k (h unheaded) e;
}) (subst (ToldBy y s) e t)

same_kind : (k l : FaultKind) → (let v : Next = Err k in v) ≡ Err l → k ≡ l
same_kind k l e = cc

never : {A : Type 0} (zs : List Symbol) (k : FaultKind) → (let v : Next = Ok zs in v) ≡ Err k → A
never zs k e = cc

why_level : (y : Symbol) (s : Lookahead) (n : ℕ) (zs : List Symbol) (k : FaultKind) (b : Bool)
    → nat_lt n the_rules.levels ≡ b → ((w : StructureRules)
    → next w y s ≡ (if nat_lt n w.levels then Ok zs else Err kinds.TooDeep)) → n ≤ the_rules.levels → NoSemicolon s
    → (let v : Next = if b then Ok zs else Err kinds.TooDeep in v) ≡ Err k → Why y s k
why_level y s n zs k true t h l o e = never zs k e
why_level y s n zs k false t h l o e =
    let same : (let v : Next = if nat_lt n the_rules.levels then Ok zs else Err kinds.TooDeep in v) ≡ Err kinds.TooDeep
    = rw t refl in
    subst (Why y s) (same_kind kinds.TooDeep k e) (
      record {
        by_names = refuses repeated y s _ kinds.TooDeep (h repeated) same;
        by_many = refuses more_parts y s _ kinds.TooDeep (h more_parts) same;
        by_depth = (zs, h more_levels ∙ rw (below n the_rules.levels l) refl);
        by_heads = refuses unheaded y s _ kinds.TooDeep (h unheaded) same;
      },
      o,
    )

why_section : (y : Symbol) (s : Lookahead) (n : ℕ) (zs : List Symbol) (k : FaultKind) (b : Bool)
    → nat_lt n the_rules.sections ≡ b → ((w : StructureRules)
    → next w y s ≡ (if nat_lt n w.sections then Ok zs else Err (kinds.LeftOut left_out.TooMany)))
    → n ≤ the_rules.sections → NoSemicolon s
    → (let v : Next = if b then Ok zs else Err (kinds.LeftOut left_out.TooMany) in v) ≡ Err k → Why y s k
why_section y s n zs k true t h l o e = never zs k e
why_section y s n zs k false t h l o e =
    let many = kinds.LeftOut left_out.TooMany in
    let same : (let v : Next = if nat_lt n the_rules.sections then Ok zs else Err many in v) ≡ Err many = rw t refl in
    subst (Why y s) (same_kind many k e) (
      record {
        by_names = (zs, h repeated ∙ rw (below n the_rules.sections l) refl);
        by_many = (zs, h more_parts ∙ rw (below n the_rules.sections l) refl);
        by_depth = refuses more_levels y s _ many (h more_levels) same;
        by_heads = refuses unheaded y s _ many (h unheaded) same;
      },
      o,
    )

why_head : (y : Symbol) (s : Lookahead) (c : Bool) (zs : List Symbol) (k : FaultKind)
    → ((w : StructureRules) → next w y s ≡ (if w.headed && c then Err kinds.HeaderFault else Ok zs)) → NoSemicolon s
    → (let v : Next = if c then Err kinds.HeaderFault else Ok zs in v) ≡ Err k → Why y s k
why_head y s false zs k h o e = never zs k e
why_head y s true zs k h o e = subst (Why y s) (same_kind kinds.HeaderFault k e) (
  record {
    by_names = refuses repeated y s _ kinds.HeaderFault (h repeated) refl;
    by_many = refuses more_parts y s _ kinds.HeaderFault (h more_parts) refl;
    by_depth = refuses more_levels y s _ kinds.HeaderFault (h more_levels) refl;
    by_heads = (zs, h unheaded);
  },
  o,
)

why_keyword : (y : Symbol) (s : Lookahead) (c : Bool) (zs : List Symbol) (k : FaultKind)
    → ((w : StructureRules) → next w y s ≡ (if w.distinct && c then Err kinds.DuplicateName else Ok zs)) → NoSemicolon s
    → (let v : Next = if c then Err kinds.DuplicateName else Ok zs in v) ≡ Err k → Why y s k
why_keyword y s false zs k h o e = never zs k e
why_keyword y s true zs k h o e = subst (Why y s) (same_kind kinds.DuplicateName k e) (
  record {
    by_names = (zs, h repeated);
    by_many = refuses more_parts y s _ kinds.DuplicateName (h more_parts) refl;
    by_depth = refuses more_levels y s _ kinds.DuplicateName (h more_levels) refl;
    by_heads = refuses unheaded y s _ kinds.DuplicateName (h unheaded) refl;
  },
  o,
)

abbrev Named : Bool → ℕ → List Symbol → StructureRules → Next
Named c n zs w = if w.distinct && c then Err kinds.DuplicateName else
    (if nat_lt n w.instances then Ok zs else Err (kinds.LeftOut left_out.TooMany))

why_name : (y : Symbol) (s : Lookahead) (c : Bool) (n : ℕ) (zs : List Symbol) (k : FaultKind) (b : Bool)
    → nat_lt n the_rules.instances ≡ b → ((w : StructureRules) → next w y s ≡ Named c n zs w) → n ≤ the_rules.instances
    → NoSemicolon s → (let v : Next = if c then Err kinds.DuplicateName else
    (if b then Ok zs else Err (kinds.LeftOut left_out.TooMany)) in v) ≡ Err k → Why y s k
why_name y s true n zs k b t h l o e = subst (Why y s) (same_kind kinds.DuplicateName k e) (
  record {
    by_names = (zs, h repeated ∙ rw (below n the_rules.instances l) refl);
    by_many = refuses more_parts y s _ kinds.DuplicateName (h more_parts) refl;
    by_depth = refuses more_levels y s _ kinds.DuplicateName (h more_levels) refl;
    by_heads = refuses unheaded y s _ kinds.DuplicateName (h unheaded) refl;
  },
  o,
)
why_name y s false n zs k true t h l o e = never zs k e
why_name y s false n zs k false t h l o e =
    let many = kinds.LeftOut left_out.TooMany in
    let same : Named false n zs the_rules ≡ Err many = rw t refl in
    subst (Why y s) (same_kind many k e) (
      record {
        by_names = (zs, h repeated ∙ rw (below n the_rules.instances l) refl);
        by_many = (zs, h more_parts ∙ rw (below n the_rules.instances l) refl);
        by_depth = refuses more_levels y s _ many (h more_levels) same;
        by_heads = refuses unheaded y s _ many (h unheaded) same;
      },
      o,
    )

-- each fault's reason
pub why : (y : Symbol) (s : Lookahead) (k : FaultKind) → Little the_rules y → next the_rules y s ≡ Err k → Why y s k
why y s k little e = by (form y s)
  where
    by : Form y s → Why y s k
    by (fixed v h t) = why_fixed y s v k h t (sym (h the_rules) ∙ e)
    by (by_level n zs h l o) = why_level y s n zs k (nat_lt n the_rules.levels) refl h (l the_rules little) o
        (sym (h the_rules) ∙ e)
    by (by_section n zs h l o) = why_section y s n zs k (nat_lt n the_rules.sections) refl h (l the_rules little) o
        (sym (h the_rules) ∙ e)
    by (by_head c zs h o) = why_head y s c zs k h o (sym (h the_rules) ∙ e)
    by (by_keyword c zs h o) = why_keyword y s c zs k h o (sym (h the_rules) ∙ e)
    by (by_name c n zs h l o) = why_name y s c n zs k (nat_lt n the_rules.instances) refl h (l the_rules little) o
        (sym (h the_rules) ∙ e)
