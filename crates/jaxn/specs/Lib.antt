-- What the program prints (Line), and what its parts do on the way (Steps)
pub mod Line
-- Between: what functions promise each other
pub mod Between
