-- `put_digits`, which calls itself: the number falls.
use Rattle.plank_core.proofs.text.+put_digits.Given as goal

abbrev pub decreases-put_digits : goal.decreases-put_digits
decreases-put_digits l = l.n
