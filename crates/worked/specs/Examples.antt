-- The worked examples, all of them.
use Rattle.worked.specs.Reading.{ReadingExamples}
use Rattle.worked.specs.Finding.{FindingExamples}
use Rattle.worked.specs.Evicting.{EvictingExamples}

pub record WorkedExamples : Type 0 where
  pub reading : ReadingExamples
  pub finding : FindingExamples
  pub evicting : EvictingExamples
