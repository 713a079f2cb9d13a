-- Each arm is a letter with its places; where none of them is, the rest stands.
use Rattle.std.proofs.Common.{refl, take, drop}
use Prim.Native.Char.{code}
use Rattle.layouts.specs.Coded.{shapes, codes, letter_at}
use Rattle.layouts.proofs.Tables.{spots, letter-is, letter_rest}
use Rattle.layouts_rows.proofs.letter_at.Goals as goal

pub returns-in-19 : goal.returns-in-19
unfolding letter_at codes shapes
returns-in-19 c = letter-is (spots (code "3") 0 codes) c.args.at (code "3") refl c.in-19.is

pub returns-in-110 : goal.returns-in-110
unfolding letter_at codes shapes
returns-in-110 c = letter-is (spots (code "4") 0 codes) c.args.at (code "4") refl c.in-110.is

pub returns-in-13 : goal.returns-in-13
unfolding letter_at codes shapes
returns-in-13 c = letter-is (spots (code "6") 0 codes) c.args.at (code "6") refl c.in-13.is

pub returns-in-0 : goal.returns-in-0
unfolding letter_at codes shapes
returns-in-0 c = letter-is (spots (code "7") 0 codes) c.args.at (code "7") refl c.in-0.is

pub returns-in-26 : goal.returns-in-26
unfolding letter_at codes shapes
returns-in-26 c = letter-is (spots (code "t") 0 codes) c.args.at (code "t") refl c.in-26.is

pub returns-in-80 : goal.returns-in-80
unfolding letter_at codes shapes
returns-in-80 c = letter-is (spots (code "s") 0 codes) c.args.at (code "s") refl c.in-80.is

pub returns-in-60 : goal.returns-in-60
unfolding letter_at codes shapes
returns-in-60 c = letter-is (spots (code "i") 0 codes) c.args.at (code "i") refl c.in-60.is

pub returns-in-102 : goal.returns-in-102
unfolding letter_at codes shapes
returns-in-102 c = letter-is (spots (code "1") 0 codes) c.args.at (code "1") refl c.in-102.is

pub returns-in-79 : goal.returns-in-79
unfolding letter_at codes shapes
returns-in-79 c = letter-is (spots (code "d") 0 codes) c.args.at (code "d") refl c.in-79.is

pub returns-in-1 : goal.returns-in-1
unfolding letter_at codes shapes
returns-in-1 c = letter-is (take 16 (spots (code "N") 0 codes)) c.args.at (code "N") refl c.in-1.is

pub returns-in-66 : goal.returns-in-66
unfolding letter_at codes shapes
returns-in-66 c = letter-is (drop 16 (spots (code "N") 0 codes)) c.args.at (code "N") refl c.in-66.is

pub returns-in-70 : goal.returns-in-70
unfolding letter_at codes shapes
returns-in-70 c = letter-is (spots (code "o") 0 codes) c.args.at (code "o") refl c.in-70.is

pub returns-in-32 : goal.returns-in-32
unfolding letter_at codes shapes
returns-in-32 c = letter-is (spots (code "K") 0 codes) c.args.at (code "K") refl c.in-32.is

pub returns-in-46 : goal.returns-in-46
unfolding letter_at codes shapes
returns-in-46 c = letter-is (spots (code "L") 0 codes) c.args.at (code "L") refl c.in-46.is

pub returns-in-33 : goal.returns-in-33
unfolding letter_at codes shapes
returns-in-33 c = letter-is (spots (code "M") 0 codes) c.args.at (code "M") refl c.in-33.is

pub returns-in-48 : goal.returns-in-48
unfolding letter_at codes shapes
returns-in-48 c = letter-is (spots (code "O") 0 codes) c.args.at (code "O") refl c.in-48.is

pub returns-in-34 : goal.returns-in-34
unfolding letter_at codes shapes
returns-in-34 c = letter-is (spots (code "f") 0 codes) c.args.at (code "f") refl c.in-34.is

pub returns-in-49 : goal.returns-in-49
unfolding letter_at codes shapes
returns-in-49 c = letter-is (spots (code "F") 0 codes) c.args.at (code "F") refl c.in-49.is

pub returns-in-35 : goal.returns-in-35
unfolding letter_at codes shapes
returns-in-35 c = letter-is (spots (code "k") 0 codes) c.args.at (code "k") refl c.in-35.is

pub returns-in-51 : goal.returns-in-51
unfolding letter_at codes shapes
returns-in-51 c = letter-is (spots (code "l") 0 codes) c.args.at (code "l") refl c.in-51.is

pub returns-in-36 : goal.returns-in-36
unfolding letter_at codes shapes
returns-in-36 c = letter-is (spots (code "w") 0 codes) c.args.at (code "w") refl c.in-36.is

pub returns-in-37 : goal.returns-in-37
unfolding letter_at codes shapes
returns-in-37 c = letter-is (spots (code "c") 0 codes) c.args.at (code "c") refl c.in-37.is

pub returns-in-38 : goal.returns-in-38
unfolding letter_at codes shapes
returns-in-38 c = letter-is (spots (code "g") 0 codes) c.args.at (code "g") refl c.in-38.is

pub returns-in-54 : goal.returns-in-54
unfolding letter_at codes shapes
returns-in-54 c = letter-is (spots (code "G") 0 codes) c.args.at (code "G") refl c.in-54.is

pub returns-in-20 : goal.returns-in-20
unfolding letter_at codes shapes
returns-in-20 c = letter-is (spots (code "p") 0 codes) c.args.at (code "p") refl c.in-20.is

pub returns-in-62 : goal.returns-in-62
unfolding letter_at codes shapes
returns-in-62 c = letter-is (spots (code "P") 0 codes) c.args.at (code "P") refl c.in-62.is

pub returns-in-61 : goal.returns-in-61
unfolding letter_at codes shapes
returns-in-61 c = letter-is (spots (code "Q") 0 codes) c.args.at (code "Q") refl c.in-61.is

pub returns-in-2 : goal.returns-in-2
unfolding letter_at codes shapes
returns-in-2 c = letter-is (take 16 (spots (code "q") 0 codes)) c.args.at (code "q") refl c.in-2.is

pub returns-in-67 : goal.returns-in-67
unfolding letter_at codes shapes
returns-in-67 c = letter-is (drop 16 (spots (code "q") 0 codes)) c.args.at (code "q") refl c.in-67.is

pub returns-in-72 : goal.returns-in-72
unfolding letter_at codes shapes
returns-in-72 c = letter-is (spots (code "b") 0 codes) c.args.at (code "b") refl c.in-72.is

pub returns-in-73 : goal.returns-in-73
unfolding letter_at codes shapes
returns-in-73 c = letter-is (spots (code "u") 0 codes) c.args.at (code "u") refl c.in-73.is

pub returns-in-109 : goal.returns-in-109
unfolding letter_at codes shapes
returns-in-109 c = letter-is (spots (code "I") 0 codes) c.args.at (code "I") refl c.in-109.is

pub returns-in_default : goal.returns-in_default
unfolding letter_at codes shapes
returns-in_default c = letter_rest c.args.at c.in_default.in_default-own.rest
