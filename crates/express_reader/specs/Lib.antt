-- The schema that a text reads as, and its meaning: the definitions of the crates below.
pub use Rattle.express_lexer.specs.Meanings
pub use Rattle.express_syntax.specs.Trees
pub use Rattle.express_syntax.specs.ExpressionViews
pub use Rattle.express_syntax.specs.Runs
pub use Rattle.express_syntax.specs.Schemas
pub use Rattle.express_syntax.specs.WrittenSchemas
pub use Rattle.express_syntax.specs.Profile
pub use Rattle.express_syntax.specs.Texts
pub use Rattle.express_syntax.specs.Views
pub use Rattle.express_syntax.specs.SchemaViews
pub use Rattle.express_syntax.specs.Clauses
