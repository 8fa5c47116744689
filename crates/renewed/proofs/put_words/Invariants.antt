use Rattle.renewed.proofs.RenewedLaws.{Stored}
use Rattle.renewed.proofs.put_words.Given as goal

abbrev pub invariant-loop-i : goal.invariant-loop-i
invariant-loop-i l = Stored l.initial.buf l.k l.numbers l.buf l.i
