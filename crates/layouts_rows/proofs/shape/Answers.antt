-- Each arm is a letter of the coded table; any other letter is the rest.
use Rattle.std.proofs.Common.{refl}
use Rattle.layouts.specs.Coded.{shapes, shape_of}
use Rattle.layouts.proofs.Tables.{shape_is, shape_none}
use Rattle.layouts_rows.proofs.shape.Goals as goal

pub returns-in-51 : goal.returns-in-51
unfolding shape_of shapes
returns-in-51 c = shape_is _ _ _ _ c.in-51.is c.of.ensures refl

pub returns-in-52 : goal.returns-in-52
unfolding shape_of shapes
returns-in-52 c = shape_is _ _ _ _ c.in-52.is c.of-in-52.ensures refl

pub returns-in-54 : goal.returns-in-54
unfolding shape_of shapes
returns-in-54 c = shape_is _ _ _ _ c.in-54.is c.of-in-54.ensures refl

pub returns-in-55 : goal.returns-in-55
unfolding shape_of shapes
returns-in-55 c = shape_is _ _ _ _ c.in-55.is c.of-in-55.ensures refl

pub returns-in-116 : goal.returns-in-116
unfolding shape_of shapes
returns-in-116 c = shape_is _ _ _ _ c.in-116.is c.of-in-116.ensures refl

pub returns-in-115 : goal.returns-in-115
unfolding shape_of shapes
returns-in-115 c = shape_is _ _ _ _ c.in-115.is c.of-in-115.ensures refl

pub returns-in-105 : goal.returns-in-105
unfolding shape_of shapes
returns-in-105 c = shape_is _ _ _ _ c.in-105.is c.of-in-105.ensures refl

pub returns-in-49 : goal.returns-in-49
unfolding shape_of shapes
returns-in-49 c = shape_is _ _ _ _ c.in-49.is c.of-in-49.ensures refl

pub returns-in-100 : goal.returns-in-100
unfolding shape_of shapes
returns-in-100 c = shape_is _ _ _ _ c.in-100.is c.of-in-100.ensures refl

pub returns-in-78 : goal.returns-in-78
unfolding shape_of shapes
returns-in-78 c = shape_is _ _ _ _ c.in-78.is c.of-in-78.ensures refl

pub returns-in-111 : goal.returns-in-111
unfolding shape_of shapes
returns-in-111 c = shape_is _ _ _ _ c.in-111.is c.of-in-111.ensures refl

pub returns-in-75 : goal.returns-in-75
unfolding shape_of shapes
returns-in-75 c = shape_is _ _ _ _ c.in-75.is c.of-in-75.ensures refl

pub returns-in-76 : goal.returns-in-76
unfolding shape_of shapes
returns-in-76 c = shape_is _ _ _ _ c.in-76.is c.of-in-76.ensures refl

pub returns-in-77 : goal.returns-in-77
unfolding shape_of shapes
returns-in-77 c = shape_is _ _ _ _ c.in-77.is c.of-in-77.ensures refl

pub returns-in-79 : goal.returns-in-79
unfolding shape_of shapes
returns-in-79 c = shape_is _ _ _ _ c.in-79.is c.of-in-79.ensures refl

pub returns-in-102 : goal.returns-in-102
unfolding shape_of shapes
returns-in-102 c = shape_is _ _ _ _ c.in-102.is c.of-in-102.ensures refl

pub returns-in-70 : goal.returns-in-70
unfolding shape_of shapes
returns-in-70 c = shape_is _ _ _ _ c.in-70.is c.of-in-70.ensures refl

pub returns-in-107 : goal.returns-in-107
unfolding shape_of shapes
returns-in-107 c = shape_is _ _ _ _ c.in-107.is c.of-in-107.ensures refl

pub returns-in-108 : goal.returns-in-108
unfolding shape_of shapes
returns-in-108 c = shape_is _ _ _ _ c.in-108.is c.of-in-108.ensures refl

pub returns-in-119 : goal.returns-in-119
unfolding shape_of shapes
returns-in-119 c = shape_is _ _ _ _ c.in-119.is c.of-in-119.ensures refl

pub returns-in-99 : goal.returns-in-99
unfolding shape_of shapes
returns-in-99 c = shape_is _ _ _ _ c.in-99.is c.of-in-99.ensures refl

pub returns-in-103 : goal.returns-in-103
unfolding shape_of shapes
returns-in-103 c = shape_is _ _ _ _ c.in-103.is c.of-in-103.ensures refl

pub returns-in-71 : goal.returns-in-71
unfolding shape_of shapes
returns-in-71 c = shape_is _ _ _ _ c.in-71.is c.of-in-71.ensures refl

pub returns-in-112 : goal.returns-in-112
unfolding shape_of shapes
returns-in-112 c = shape_is _ _ _ _ c.in-112.is c.of-in-112.ensures refl

pub returns-in-80 : goal.returns-in-80
unfolding shape_of shapes
returns-in-80 c = shape_is _ _ _ _ c.in-80.is c.of-in-80.ensures refl

pub returns-in-81 : goal.returns-in-81
unfolding shape_of shapes
returns-in-81 c = shape_is _ _ _ _ c.in-81.is c.of-in-81.ensures refl

pub returns-in-113 : goal.returns-in-113
unfolding shape_of shapes
returns-in-113 c = shape_is _ _ _ _ c.in-113.is c.of-in-113.ensures refl

pub returns-in-98 : goal.returns-in-98
unfolding shape_of shapes
returns-in-98 c = shape_is _ _ _ _ c.in-98.is c.of-in-98.ensures refl

pub returns-in-117 : goal.returns-in-117
unfolding shape_of shapes
returns-in-117 c = shape_is _ _ _ _ c.in-117.is c.of-in-117.ensures refl

pub returns-in-73 : goal.returns-in-73
unfolding shape_of shapes
returns-in-73 c = shape_is _ _ _ _ c.in-73.is c.of-in-73.ensures refl

pub returns-in_default : goal.returns-in_default
unfolding shape_of shapes
returns-in_default c = shape_none _ _ c.in_default.in_default-own.rest c.of-in_default.ensures
