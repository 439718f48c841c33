-- Document 01, "Layouts": the bodies of sequence headers, display extensions and copyright extensions, with their records.
use Rattle.std.specs.Prelude.{ℕ, ◌≡◌, List}
use Rattle.std.proofs.Math.Option.{some}
use Rattle.layout.specs.Obeys.{Obeys}
use Rattle.layout.specs.declared.Layout.TheVariants.{Header, Display, Coloured, Copyright}
use Rattle.bodies.specs.Extensions.{HasNumber, ColourGiven}
use Rattle.bodies.specs.Records.{header_record, plain_record, coloured_record, copyright_record}
use Rattle.bodies.specs.declared.SequenceHeader.{SequenceHeader}
use Rattle.bodies.specs.declared.DisplayExtension.{DisplayExtension}
use Rattle.bodies.specs.declared.CopyrightExtension.{CopyrightExtension}

-- the body of a sequence header
pub record HeaderBody (body : List ℕ) (h : SequenceHeader) : Type 0 where
  pub values : List ℕ
  pub obeys : Obeys Header body values
  pub recorded : header_record values ≡ some h

-- the body of a display extension: number 2, without colour or with it, as colour given says
pub data DisplayBody (body : List ℕ) (d : DisplayExtension) : Type 0 where
  plain : HasNumber body 2 → ColourGiven body 0 → (vs : List ℕ) → Obeys Display body vs → plain_record vs ≡ some d → DisplayBody body d
  coloured : HasNumber body 2 → ColourGiven body 1 → (vs : List ℕ) → Obeys Coloured body vs → coloured_record vs ≡ some d → DisplayBody body d

-- the body of a copyright extension: number 4
pub record CopyrightBody (body : List ℕ) (c : CopyrightExtension) : Type 0 where
  pub number : HasNumber body 4
  pub values : List ℕ
  pub obeys : Obeys Copyright body values
  pub recorded : copyright_record values ≡ some c
