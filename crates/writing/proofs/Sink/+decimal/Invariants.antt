use Rattle.writing.proofs.Sink.+decimal.Given as goal

abbrev pub decreases-decimal : goal.decreases-decimal
decreases-decimal g l = l.v
