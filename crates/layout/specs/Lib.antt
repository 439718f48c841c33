-- What document 01 says of the layouts of bodies: the fields, what a body obeys and what it breaks.
pub mod Layouts
pub mod Values
pub mod Obeys
pub mod Breaks
pub mod Reader
pub mod Inside
