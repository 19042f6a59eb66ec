-- The lines of paper 01, "On both sides of a line", that are marked (P), as one statement over one list: of the definitions that the
-- contracts of the calls cite, and of the messages that the store holds.
-- Assumes nothing.
use Rattle.std.specs.Prelude.{List, [], ◌∷◌}
use Rattle.both_sides.specs.TlvLines.{EmptyLast, empty-last, EmptyFirst, empty-first, OddLength, odd-length}
use Rattle.compare_laws.specs.Lines.{SenderReceives, Circle}
use Rattle.compare_laws.proofs.Lines.{sender_receives, circle}
use Rattle.decision.proofs.Lines.{Classes, classes}
use Rattle.history.specs.Sound.{Lawful}
use Rattle.history.proofs.Lines.{Sequences, sequences, Steps, steps-removed, Ages, ages, AgesAlone, ages-alone}
use Rattle.book.specs.Layout.{reads, lawful}

-- every statement of a list holds
abbrev pub Every : List (Type 0) → Type 0
Every [] = Unit
Every (S ∷ Ss) = S × Every Ss

abbrev pub lines : List (Type 0)
lines =
    -- Sequence difference 0 and 32766 taken; 32767 and 65535 refused 10.
    Sequences reads
    -- Steps 254 taken; 255 refused 11.
    ∷ Steps reads
    -- Age 4 x interval - 1 kept; 4 x interval dropped: between any messages of a port, and alone with its master.
    ∷ (Lawful reads × Ages reads)
    ∷ (Lawful reads × AgesAlone reads)
    -- Class 1 and 127 read only Erbest; 0 and 128 read Ebest.
    ∷ Classes
    -- 00080000 refused 1; 00080000 000800020102 passes; 000800010102 refused 4.
    ∷ EmptyLast
    ∷ EmptyFirst
    ∷ OddLength
    -- Sender equal to receiver, one grandmaster: steps 1 against 2 and 2 against 3 are Error1, 1 against 3 Better.
    ∷ SenderReceives
    -- a: X, priority 1, steps 3; b: Y, priority 2; c: X, priority 3, steps 1. c beats a, a beats b, b beats c.
    ∷ Circle
    ∷ []

pub lines-hold : Every lines
lines-hold =
    (sequences reads, (steps-removed reads, ((lawful, ages reads), ((lawful, ages-alone reads), (classes, (empty-last, (empty-first, (odd-length, (sender_receives, (circle, tt))))))))))
