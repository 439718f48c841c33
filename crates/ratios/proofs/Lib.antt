-- The rule of a table of fractions.
pub mod RatioLaws
